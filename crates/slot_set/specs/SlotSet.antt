-- A set of slots, seen as a flag for each slot that there is room for.
use Rattle.std.specs.Prelude.{◌≡◌, ℕ, ◌<◌, Bool, true, false, List, length, slice_index_or}

-- whether the slot is a member
abbrev pub has_slot : List Bool → ℕ → Bool
has_slot set slot = slice_index_or set slot false

-- the slot is the least member
pub record IsLeast (set : List Bool) (slot : ℕ) : Type 0 where
  pub within : slot < length set
  pub member : has_slot set slot ≡ true
  pub least : (other : ℕ) → other < slot → has_slot set other ≡ false
