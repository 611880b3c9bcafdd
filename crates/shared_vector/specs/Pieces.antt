-- Lists in pieces.
use Rattle.std.specs.Prelude.{ℕ, ◌≡◌, ◌≤◌, List, [], ◌∷◌, ◌++◌, length, slice_index_or, slice_set}

-- the pieces one after the other
abbrev pub joined : {X : Type 0} → List (List X) → List X
joined [] = []
joined (piece ∷ pieces) = piece ++ joined pieces

-- each of the pieces has 32 items
abbrev pub AreFull : {X : Type 0} → List (List X) → Type 0
AreFull [] = Unit {0}
AreFull (piece ∷ pieces) = (length piece ≡ 32) × AreFull pieces

-- so many full pieces at most, and no more than one piece behind them
abbrev pub ArePieces : {X : Type 0} → ℕ → List (List X) → List X → Type 0
ArePieces most pieces rest = AreFull pieces × (length pieces ≤ most) × (length rest ≤ 32)

-- the lists, with the item at the place of the one of that number
abbrev pub set_within : {X : Type 0} → List (List X) → ℕ → ℕ → X → List (List X)
set_within lists number place item = slice_set lists number (slice_set (slice_index_or lists number []) place item)
