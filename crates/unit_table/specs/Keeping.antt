-- How pieces are kept. No public clause speaks of it.
use Rattle.std.specs.Prelude.{◌≡◌, ◌≢◌, ◌⊎◌, ◌<◌, ◌≤◌, ℕ, Bool, List, Option, None, Some, cond, count_by, false, is_some, length, slice_set, true}
use Rattle.std.specs.declared.ops.Bound.{Bound}
use Rattle.std.specs.declared.ops.Bound.TheVariants.{Excluded, Unbounded}
use Rattle.std.specs.Option.{IfSome, IsSome, option_and_then, option_map}
use Rattle.piece_table.specs.Table.{AreTied, IsUnlent, Table}
use Rattle.record_pool.specs.Tickets.{IsGiven, IsPut}
use Rattle.piece_table.specs.declared.piece.Piece.{Piece as Kept}
use Rattle.record_pool.specs.Pool.{find}
use Rattle.slot_set.specs.SlotSet.{has_slot}
use Rattle.unit_table.specs.Board.{Board, HasPlace, is_unfinished, marks_ready, name_in, piece_at}
use Rattle.unit_table.specs.Piece.{awaited, mark_in, marked, woken}
use Rattle.unit_table.specs.declared.mark.Mark.{Mark}
use Rattle.unit_table.specs.declared.mark.Mark.TheVariants as mark
use Rattle.unit_table.specs.declared.mark.Work.TheVariants as work
use Rattle.unit_table.specs.declared.piece.Piece.{Piece}
use Rattle.unit_table.specs.declared.places.Places.{Places}
use Rattle.unit_table.specs.declared.record.Record.{Record}
use Rattle.value_core.specs.Named.{IsChanged, Name, Named, named, same_name}
use Rattle.value_core.specs.declared.ticket.Ticket.{Ticket}
use Rattle.wait_lists.specs.WaitLists.{need_of}

-- the board of the places
abbrev pub board_of : Places → Board
board_of p = record { records = p.records.entries; names = p.names.items; table = p.table }

-- the ticket and the slot of the place under the name
abbrev pub ticket_at : Named Record → Name → Option Ticket
ticket_at records name = option_map (λ (r : Record). r.ticket) (named name records)

abbrev pub slot_at : Named Record → Name → Option ℕ
slot_at records name = option_map (λ (r : Record). r.ticket.slot) (named name records)

-- from where on the names come after that one
abbrev pub after_bound : Option Name → Bound Name
after_bound None = Unbounded
after_bound (Some name) = Excluded name

-- for whose finish what stands there waits
abbrev pub waits_for : Option Piece → Option Name
waits_for found = option_and_then (λ (p : Piece). awaited (mark_in p)) found

-- the slot of that
abbrev pub need_at : Named Record → Option Name → Option ℕ
need_at records for = option_and_then (slot_at records) for

-- A place: its slot has its name and can wait; the table says whether it is ready; and it waits for what its mark says, which
-- has a place. What is not ready is not lent.
pub record IsPlace (b : Board) (waits : List (Option ℕ)) (name : Name) (r : Record) : Type 0 where
  pub called : name_in b.names r.ticket.slot ≡ Some name
  pub room : r.ticket.slot < length waits
  pub kept : Kept
  pub there : find b.table.pieces r.ticket ≡ Some kept
  pub ready : kept.is_ready ≡ marks_ready r.piece
  pub need : need_of waits r.ticket.slot ≡ need_at b.records (waits_for r.piece)
  pub awaited : IfSome (waits_for r.piece) (λ f. IsSome (named f b.records))
  pub idle : kept.is_ready ≡ false → kept.lent ≡ None

-- a place has that ticket
pub record HasTicket (b : Board) (ticket : Ticket) : Type 0 where
  pub name : Name
  pub place : Record
  pub there : named name b.records ≡ Some place
  pub ticket_is : place.ticket ≡ ticket

-- nothing stands in the place of that ticket
pub record IsEmptyPlace (b : Board) (ticket : Ticket) : Type 0 where
  pub name : Name
  pub there : ticket_at b.records name ≡ Some ticket
  pub empty : piece_at b name ≡ None

-- a place has that slot
pub record HasSlot (b : Board) (slot : ℕ) : Type 0 where
  pub name : Name
  pub place : Record
  pub there : named name b.records ≡ Some place
  pub slot_is : place.ticket.slot ≡ slot

-- Each place is kept so; each piece of the table has its place; what waits has one; and the claims are those of the pieces.
pub record IsKept (b : Board) (waits : List (Option ℕ)) : Type 0 where
  pub places : (name : Name) (r : Record) → named name b.records ≡ Some r → IsPlace b waits name r
  pub tickets : (ticket : Ticket) (kept : Kept) → find b.table.pieces ticket ≡ Some kept → HasTicket b ticket
  pub waiting : (slot need : ℕ) → need_of waits slot ≡ Some need → HasSlot b slot
  pub tied : AreTied b.table.pieces b.table.claims

-- The set has the slots of the units that are not finished, and room for each place.
pub record AreUnfinished (b : Board) (set : List Bool) : Type 0 where
  pub room : (name : Name) (slot : ℕ) → slot_at b.records name ≡ Some slot → slot < length set
  pub flag : (name : Name) (slot : ℕ) → slot_at b.records name ≡ Some slot → has_slot set slot ≡ is_unfinished b name
  pub only : (slot : ℕ) → has_slot set slot ≡ true → HasSlot b slot

-- the set has the slot of the name where a unit stands there that is not finished, and is else as it was
abbrev pub IsUnfinishedNoted : Board → Name → List Bool → List Bool → Type 0
IsUnfinishedNoted b name old new = IfSome (slot_at b.records name) (λ slot. new ≡ slice_set old slot (is_unfinished b name))

-- the places have the slots that they had
abbrev pub SameSlots : Board → Board → Type 0
SameSlots old new = (name : Name) → slot_at new.records name ≡ slot_at old.records name

-- each place keeps its slot; a new one has one that was made before, or the next
pub record KeepsSlots (old new : Board) : Type 0 where
  pub kept : (name : Name) → HasPlace old name → slot_at new.records name ≡ slot_at old.records name
  pub near : (name : Name) (slot : ℕ) → slot_at new.records name ≡ Some slot → HasPlace old name ⊎ (slot ≤ length old.table.pieces.places)

-- each place keeps its slot, or is given up, where nothing stood there
pub record LosesSlots (old new : Board) : Type 0 where
  pub kept : (name : Name) (slot : ℕ) → slot_at new.records name ≡ Some slot → slot_at old.records name ≡ Some slot
  pub lost : (name : Name) (slot : ℕ) → slot_at old.records name ≡ Some slot → (slot_at new.records name ≡ Some slot) ⊎ (piece_at old name ≡ None)

-- the place under the name is taken out, and the others stay
abbrev pub IsPlaceTaken : Name → Named Record → Named Record → Type 0
IsPlaceTaken name old new = (other : Name) → named other new ≡ cond (same_name name other) None (named other old)

-- the place under the name has that ticket, nothing stands there, and nothing waits for its slot
pub record IsSpare (b : Board) (waits : List (Option ℕ)) (name : Name) (ticket : Ticket) : Type 0 where
  pub there : named name b.records ≡ Some (record { ticket = ticket; piece = None })
  pub free : (slot : ℕ) → need_of waits slot ≢ Some ticket.slot

-- where the name has a place, something stands there, or something waits for its slot
abbrev pub IsInUse : Board → List (Option ℕ) → Name → Type 0
IsInUse b waits name = IfSome (named name b.records) (λ (r : Record). IsSome r.piece ⊎ ((slot : ℕ) × (need_of waits slot ≡ Some r.ticket.slot)))

-- the piece of the ticket has that flag and is lent no more
pub record IsFlagged (old new : Table) (ticket : Ticket) (is_ready : Bool) : Type 0 where
  pub put : IsPut old.pieces new.pieces ticket (Some (record { is_ready = is_ready; lent = None }))
  pub unlent : IfSome (find old.pieces ticket) (λ (kept : Kept). IsUnlent old.claims new.claims kept.lent)

-- and it waits for that slot, or for none
pub record IsNoted (old new : Places) (ticket : Ticket) (is_ready : Bool) (need : Option ℕ) : Type 0 where
  pub records : new.records ≡ old.records
  pub names : new.names ≡ old.names
  pub flagged : IsFlagged old.table new.table ticket is_ready
  pub tied : AreTied new.table.pieces new.table.claims
  pub need_here : need_of new.waits ticket.slot ≡ need
  pub need_others : (slot : ℕ) → slot ≢ ticket.slot → need_of new.waits slot ≡ need_of old.waits slot
  pub room : length new.waits ≡ length old.waits

-- what stands in the place has that mark, or is gone
abbrev pub IsMarkedAs : Mark → Record → Record → Type 0
IsMarkedAs mark r after = after ≡ record r { piece = option_and_then (marked mark) r.piece }

-- what stands under the name is ready to settle, and is flagged so
pub record IsSettled (name : Name) (records records_2 : Named Record) (table table_2 : Table) : Type 0 where
  pub marked : IsChanged name records records_2 (IsMarkedAs (mark.Ready work.Settle))
  pub flagged : IfSome (named name records) (λ (r : Record). IsFlagged table table_2 r.ticket true)

-- nothing else waits, and the same slots have names
pub record WaitsOn (old new : Places) : Type 0 where
  pub records : new.records ≡ old.records
  pub claims : new.table.claims ≡ old.table.claims
  pub need : (slot : ℕ) → need_of new.waits slot ≡ need_of old.waits slot
  pub room : length old.waits ≤ length new.waits

-- a new piece of the table, which is not ready, has the name in its slot, and can wait
pub record IsSlotMade (old new : Places) (name : Name) (ticket : Ticket) : Type 0 where
  pub waits : WaitsOn old new
  pub given : IsGiven old.table.pieces new.table.pieces ticket (record { is_ready = false; lent = None })
  pub called : name_in new.names.items ticket.slot ≡ Some name
  pub others : (slot : ℕ) → slot ≢ ticket.slot → name_in new.names.items slot ≡ name_in old.names.items slot
  pub can_wait : ticket.slot < length new.waits
  pub near : ticket.slot ≤ length old.table.pieces.places

-- no piece more
pub record IsNoSlotMade (old new : Places) : Type 0 where
  pub waits : WaitsOn old new
  pub pieces : (ticket : Ticket) → find new.table.pieces ticket ≡ find old.table.pieces ticket
  pub names : (slot : ℕ) → name_in new.names.items slot ≡ name_in old.names.items slot

-- how many slots wait
abbrev pub waiting_count : List (Option ℕ) → ℕ
waiting_count waits = count_by is_some waits

-- what stands under each name is what stood there, or is woken
abbrev pub IsWokenOrSame : Name → Board → Board → Type 0
IsWokenOrSame name old new = (other : Name) → (piece_at new other ≡ piece_at old other) ⊎ (piece_at new other ≡ option_map (woken name) (piece_at old other))
