-- The units that name a global or a unit, and how a global spreads along them.
use Rattle.std.specs.Prelude.{◌≡◌, ◌↔◌, ◌⊎◌, ℕ, suc, ◌<◌, ◌-◌, Bool, if◌then◌else◌, List, [], ◌∷◌, ◌++◌, length, Some, slice_get, slice_index_or, Contains, nat_eq}
use Rattle.std.specs.Option.{option_eq}
use Rattle.resolved_forms.specs.declared.uses.Uses.{Uses}
use Rattle.resolved_forms.specs.Reach.{Names, AreReached, globals_named, units_named}

-- whether the number is the last one of the list
abbrev pub ends_in : List ℕ → ℕ → Bool
ends_in xs n = option_eq nat_eq (slice_get xs (length xs - 1)) (Some n)

-- the list with the number at its end, put there once
abbrev pub ending_in : List ℕ → ℕ → List ℕ
ending_in xs n = if ends_in xs n then xs else xs ++ n ∷ []

-- the lists with, for each number below `count`, the units that name it
pub record AreUsers (named : Uses → List ℕ) (uses : List Uses) (count : ℕ) (users : List (List ℕ)) : Type 0 where
  pub as_many : length users ≡ count
  pub are : (number unit : ℕ) → Contains (slice_index_or users number []) unit ↔ ((number < count) × Names named uses unit number)

-- the lists have the unit as well at each of these numbers
pub record Notes (old : List (List ℕ)) (named : List ℕ) (unit : ℕ) (new : List (List ℕ)) : Type 0 where
  pub as_many : length new ≡ length old
  pub are : (number user : ℕ) → Contains (slice_index_or new number []) user
      ↔ (Contains (slice_index_or old number []) user ⊎ ((number < length old) × (user ≡ unit) × Contains named number))

-- whatever the units use: where these are the callers of each and the users of the global, the lists have the global as well
abbrev pub Spreads : List (List ℕ) → List ℕ → ℕ → List (List ℕ) → List (List ℕ) → Type 0
Spreads callers users global old new =
    (uses : List Uses) → AreUsers units_named uses (length uses) callers → ((unit : ℕ) → Contains users unit ↔ Names globals_named uses unit global)
    → AreReached uses global old → AreReached uses (suc global) new
