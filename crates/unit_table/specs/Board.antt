-- What stands under each name, and what is lent.
use Rattle.std.specs.Prelude.{◌≡◌, ◌≤◌, ◌&&◌, ℕ, Bool, List, Option, None, Some, cond, false, true, refl, slice_index_or, ⊤}
use Rattle.std.specs.Ordering.{is_gt}
use Rattle.std.specs.declared.cmp.Ordering.TheVariants.{Less}
use Rattle.std.specs.Coded.{Coded, code_by, coded×, coded_list, coded_option, coded_ℕ}
use Rattle.std.specs.Option.{IfSome, IsSome, option_and_then, option_map}
use Rattle.piece_table.specs.Table.{Table, is_free, table_code}
use Rattle.piece_table.specs.declared.piece.Piece.{Piece as Kept}
use Rattle.record_pool.specs.Pool.{find, next_of}
use Rattle.unit_table.specs.Piece.{actor_in, awaited, beside, goes_on, is_for, mark_in, marked, says_ready, unit_in}
use Rattle.unit_table.specs.contracts.record.Record as record_row
use Rattle.unit_table.specs.declared.mark.Mark.{Mark}
use Rattle.unit_table.specs.declared.piece.Piece.{Piece}
use Rattle.unit_table.specs.declared.record.Record.{Record}
use Rattle.unit_table.specs.declared.unit.Unit.{Unit}
use Rattle.serial_model.specs.declared.actor_state.ActorState.{ActorState}
use Rattle.value_core.specs.Name.{after_cmp}
use Rattle.value_core.specs.NameSet.{holds_at}
use Rattle.value_core.specs.Named.{Name, Named, named, same_name}
use Rattle.value_core.specs.declared.ticket.Ticket.{Ticket}

-- the places by name, the name that has each slot, and the table of what is ready and what is lent
pub record Board : Type 0 where
  pub records : Named Record
  pub names : List (Option Name)
  pub table : Table

-- it is stored as its parts
abbrev pub board_code : Coded Board
board_code = code_by (Named Record × (List (Option Name) × Table))
    (coded× (coded_list (coded× (coded_list coded_ℕ) (record_row.the_row).coded)) (coded× (coded_list (coded_option (coded_list coded_ℕ))) table_code))
    (λ b. (b.records, (b.names, b.table))) (λ p. record { records = p.0; names = p.1.0; table = p.1.1 }) (λ _. refl)

-- what stands under the name
abbrev pub piece_in : Named Record → Name → Option Piece
piece_in records name = option_and_then (λ (r : Record). r.piece) (named name records)

abbrev pub piece_at : Board → Name → Option Piece
piece_at b name = piece_in b.records name

-- the unit, the actor and the mark under the name
abbrev pub unit_at : Board → Name → Option Unit
unit_at b name = option_and_then unit_in (piece_at b name)

abbrev pub actor_at : Board → Name → Option ActorState
actor_at b name = option_and_then actor_in (piece_at b name)

abbrev pub mark_at : Board → Name → Option Mark
mark_at b name = option_map mark_in (piece_at b name)

-- a unit stands under the name that is not finished
abbrev pub is_unfinished : Board → Name → Bool
is_unfinished b name = holds_at goes_on (piece_at b name)

-- something stands under the name, or there is room that it can
abbrev pub HasPlace : Board → Name → Type 0
HasPlace b name = IsSome (named name b.records)

-- where it waits for a finish, there is a place for what it waits for
abbrev pub CanWait : Board → Mark → Type 0
CanWait b mark = IfSome (awaited mark) (HasPlace b)

-- the claim that lends a piece of the table
abbrev pub lent_in : Table → Ticket → Option Ticket
lent_in t ticket = option_and_then (λ (p : Kept). p.lent) (find t.pieces ticket)

-- the claim that lends what stands under the name
abbrev pub lent_at : Board → Name → Option Ticket
lent_at b name = option_and_then (λ (r : Record). lent_in b.table r.ticket) (named name b.records)

-- the name that has the slot
abbrev pub name_in : List (Option Name) → ℕ → Option Name
name_in names slot = slice_index_or names slot None

-- the name of what the claim lends
abbrev pub lent_to : Board → Ticket → Option Name
lent_to b claim = option_and_then (λ (t : Ticket). name_in b.names t.slot) (find b.table.claims claim)

abbrev pub marks_ready : Option Piece → Bool
marks_ready None = false
marks_ready (Some p) = says_ready (mark_in p)

-- something can be done with what stands under the name, and it is not lent
abbrev pub is_ready : Board → Name → Bool
is_ready b name = marks_ready (piece_at b name) && is_free (lent_at b name)

-- what is lent can be done something with
abbrev pub LentAreReady : Board → Type 0
LentAreReady b = (claim : Ticket) (name : Name) → lent_to b claim ≡ Some name → marks_ready (piece_at b name) ≡ true

-- a name comes after that one in after-order; all names come where it is none
abbrev pub ComesAfter : Option Name → Name → Type 0
ComesAfter None next = ⊤
ComesAfter (Some name) next = after_cmp name next ≡ Less

-- what stands under the next name is the first that comes after that one
pub record IsNextIn (records : Named Record) (name : Option Name) (next : Name) : Type 0 where
  pub there : IsSome (piece_in records next)
  pub after : ComesAfter name next
  pub first : (other : Name) → ComesAfter name other → IsSome (piece_in records other) → is_gt (after_cmp next other) ≡ false

abbrev pub IsNextAfter : Board → Option Name → Name → Type 0
IsNextAfter b name next = IsNextIn b.records name next

-- no claim that was given out will be given out again
abbrev pub NoneAgain : Board → Board → Type 0
NoneAgain old new = (slot : ℕ) → next_of old.table.claims slot ≤ next_of new.table.claims slot

-- the same is lent, by the same claims
pub record SameClaims (old new : Board) : Type 0 where
  pub lent : (name : Name) → lent_at new name ≡ lent_at old name
  pub to : (claim : Ticket) → lent_to new claim ≡ lent_to old claim
  pub later : NoneAgain old new

abbrev pub but_for : Name → Option Name → Option Name
but_for name None = None
but_for name (Some other) = cond (same_name other name) None (Some other)

-- what stands under the name is lent no more; what else is lent is lent by the same claims
pub record IsUnlent (name : Name) (old new : Board) : Type 0 where
  pub here : lent_at new name ≡ None
  pub others : (other : Name) → (other ≡ name → ⊥) → lent_at new other ≡ lent_at old other
  pub to : (claim : Ticket) → lent_to new claim ≡ but_for name (lent_to old claim)
  pub later : NoneAgain old new

-- it is lent by a claim that was never given out
pub record IsLent (name : Name) (claim : Ticket) (old new : Board) : Type 0 where
  pub here : lent_at new name ≡ Some claim
  pub others : (other : Name) → (other ≡ name → ⊥) → lent_at new other ≡ lent_at old other
  pub to : lent_to new claim ≡ Some name
  pub to_others : (other : Ticket) → (other ≡ claim → ⊥) → lent_to new other ≡ lent_to old other
  pub fresh : next_of old.table.claims claim.slot ≤ claim.generation
  pub later : NoneAgain old new

-- the same stands under each name
abbrev pub SamePieces : Board → Board → Type 0
SamePieces old new = (name : Name) → piece_at new name ≡ piece_at old name

-- this stands under the name now, and under each other one what stood there
pub record IsPutAt (name : Name) (now : Option Piece) (old new : Board) : Type 0 where
  pub here : piece_at new name ≡ now
  pub others : (other : Name) → (other ≡ name → ⊥) → piece_at new other ≡ piece_at old other

-- What stands under the name has that mark now, or is gone. Where it is finished, who waited for that is ready to settle.
pub record IsMarked (name : Name) (mark : Mark) (old new : Board) : Type 0 where
  pub here : piece_at new name ≡ option_and_then (marked mark) (piece_at old name)
  pub others : (other : Name) → (other ≡ name → ⊥) → piece_at new other ≡ beside name mark (piece_at old other)

-- what is lent says by which claim, and each claim lends what says so
pub record AreTied (b : Board) : Type 0 where
  pub lends : (claim : Ticket) (name : Name) → lent_to b claim ≡ Some name → lent_at b name ≡ Some claim
  pub lent : (claim : Ticket) (name : Name) → lent_at b name ≡ Some claim → lent_to b claim ≡ Some name

-- nothing waits for the finish of the name
abbrev pub NoneWaits : Name → Board → Type 0
NoneWaits name b = (other : Name) (p : Piece) → piece_at b other ≡ Some p → is_for name (awaited (mark_in p)) ≡ false
