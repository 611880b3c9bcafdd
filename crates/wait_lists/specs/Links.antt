-- The slots that wait for one slot, as a list that is linked both ways. No public clause speaks of it.
use Rattle.std.specs.Prelude.{◌≡◌, ◌⊎◌, ℕ, ◌≤◌, List, [], ◌∷◌, length, Option, Some, None, slice_index_or, ⊤}
use Rattle.wait_lists.specs.WaitLists.{need_of}

-- the link at a slot; past the end there is none
abbrev pub link : List (Option ℕ) → ℕ → Option ℕ
link links slot = slice_index_or links slot None

-- the slot is in the list
abbrev pub IsAmong : ℕ → List ℕ → Type 0
IsAmong slot [] = ⊥
IsAmong slot (first ∷ rest) = (slot ≡ first) ⊎ IsAmong slot rest

-- no slot is in the list twice
abbrev pub EachOnce : List ℕ → Type 0
EachOnce [] = ⊤
EachOnce (first ∷ rest) = (IsAmong first rest → ⊥) × EachOnce rest

-- from this link on come these slots and then none, and each has the one before it
abbrev pub IsChain : (ℕ → Option ℕ) → (ℕ → Option ℕ) → Option ℕ → Option ℕ → List ℕ → Type 0
IsChain next before last head [] = head ≡ None
IsChain next before last head (slot ∷ rest) = (head ≡ Some slot) × (before slot ≡ last) × IsChain next before (Some slot) (next slot) rest

-- the slots that wait for the need are linked
pub record IsLinked (waits first next before : List (Option ℕ)) (need : ℕ) : Type 0 where
  pub slots : List ℕ
  pub chain : IsChain (link next) (link before) None (link first need) slots
  pub all : (slot : ℕ) → need_of waits slot ≡ Some need → IsAmong slot slots
  pub only : (slot : ℕ) → IsAmong slot slots → need_of waits slot ≡ Some need
  pub once : EachOnce slots

-- so they are for each need, and there are links for each slot
pub record AreLinked (waits first next before : List (Option ℕ)) : Type 0 where
  pub room_first : length waits ≤ length first
  pub room_next : length waits ≤ length next
  pub room_before : length waits ≤ length before
  pub linked : (need : ℕ) → IsLinked waits first next before need

-- the links go past the slot: from what was before it to what came next, and back
pub record IsPassed (slot : ℕ) (next before next_2 before_2 : ℕ → Option ℕ) : Type 0 where
  pub next_at : (other : ℕ) → before slot ≡ Some other → next_2 other ≡ next slot
  pub next_else : (other : ℕ) → (before slot ≡ Some other → ⊥) → next_2 other ≡ next other
  pub before_at : (other : ℕ) → next slot ≡ Some other → before_2 other ≡ before slot
  pub before_else : (other : ℕ) → (next slot ≡ Some other → ⊥) → before_2 other ≡ before other

-- the slot is taken out of the list of the need, whose first slot is the next one where it was the first
pub record IsUnlinked (slot need : ℕ) (first next before first_2 next_2 before_2 : List (Option ℕ)) : Type 0 where
  pub passed : IsPassed slot (link next) (link before) (link next_2) (link before_2)
  pub first_at : link before slot ≡ None → link first_2 need ≡ link next slot
  pub first_kept : (link before slot ≡ None → ⊥) → link first_2 need ≡ link first need
  pub first_else : (other : ℕ) → (other ≡ need → ⊥) → link first_2 other ≡ link first other
  pub same_first : length first_2 ≡ length first
  pub same_next : length next_2 ≡ length next
  pub same_before : length before_2 ≡ length before

-- the slot is put before the others that wait for the need
pub record IsPutFirst (slot need : ℕ) (first next before first_2 next_2 before_2 : List (Option ℕ)) : Type 0 where
  pub next_at : link next_2 slot ≡ link first need
  pub next_else : (other : ℕ) → (other ≡ slot → ⊥) → link next_2 other ≡ link next other
  pub before_at : link before_2 slot ≡ None
  pub before_first : (other : ℕ) → link first need ≡ Some other → (other ≡ slot → ⊥) → link before_2 other ≡ Some slot
  pub before_else : (other : ℕ) → (link first need ≡ Some other → ⊥) → (other ≡ slot → ⊥) → link before_2 other ≡ link before other
  pub first_at : link first_2 need ≡ Some slot
  pub first_else : (other : ℕ) → (other ≡ need → ⊥) → link first_2 other ≡ link first other
  pub same_first : length first_2 ≡ length first
  pub same_next : length next_2 ≡ length next
  pub same_before : length before_2 ≡ length before
