-- Bytes cut at the first that is a mark.
use Rattle.std.specs.Prelude.{◌≡◌, ℕ, ◌==◌, if◌then◌else◌, Bool, true, false, List, [], ◌∷◌, ◌++◌}

abbrev pub is_mark : ℕ → ℕ → Bool
is_mark mark byte = byte == mark

-- the mark is not among the bytes
abbrev pub is_without : ℕ → List ℕ → Bool
is_without mark [] = true
is_without mark (byte ∷ bytes) = if is_mark mark byte then false else is_without mark bytes

-- the bytes are what stands before their first mark, the mark, and what stands after it
pub record IsCut (mark : ℕ) (bytes before after : List ℕ) : Type 0 where
  pub first : is_without mark before ≡ true
  pub joined : bytes ≡ before ++ mark ∷ after
