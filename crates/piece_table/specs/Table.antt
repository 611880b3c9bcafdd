-- Pieces that can be ready, and that can be lent under a claim.
use Rattle.std.specs.Prelude.{◌≡◌, ◌≢◌, ◌&&◌, ℕ, ◌≤◌, Bool, List, true, false, Option, None, Some, length, refl}
use Rattle.std.specs.Option.{IfSome}
use Rattle.std.specs.Coded.{Coded, code_by, coded×}
use Rattle.record_pool.specs.Pool.{Pool, find, next_of, place_at, pool_code}
use Rattle.record_pool.specs.Tickets.{IsPut}
use Rattle.slot_set.specs.SlotSet.{has_slot}
use Rattle.value_core.specs.contracts.ticket.Ticket as ticket
use Rattle.value_core.specs.declared.ticket.Ticket.{Ticket}
use Rattle.piece_table.specs.contracts.piece.Piece as piece
use Rattle.piece_table.specs.declared.piece.Piece.{Piece}

-- the pieces by ticket, and of each claim the piece that it lends
pub record Table : Type 0 where
  pub pieces : Pool Piece
  pub claims : Pool Ticket

-- they are stored as their parts
abbrev pub table_code : Coded Table
table_code = code_by (Pool Piece × Pool Ticket) (coded× (pool_code (piece.the_row).coded) (pool_code (ticket.the_row).coded)) (λ t. (t.pieces, t.claims)) (λ p. record { pieces = p.0; claims = p.1 }) (λ _. refl)

-- whether a piece can be lent: it is ready, and not lent
abbrev pub is_free : Option Ticket → Bool
is_free None = true
is_free (Some claim) = false

abbrev pub can_lend : Piece → Bool
can_lend p = p.is_ready && is_free p.lent

-- the same of what a slot has
abbrev pub has_free : Option Piece → Bool
has_free None = false
has_free (Some p) = can_lend p

-- the piece of the ticket is there, ready and not lent
abbrev pub CanLend : Table → Ticket → Type 0
CanLend t piece = has_free (find t.pieces piece) ≡ true

-- the piece of the ticket is not lent any more, and keeps its mark
abbrev pub IsTakenBack : Pool Piece → Pool Piece → Ticket → Type 0
IsTakenBack old new ticket = IfSome (find old ticket) (λ p. IsPut old new ticket (Some (record p { lent = None })))

-- the claim of a piece that was lent is live no more, and each other one is what it was
abbrev pub IsUnlent : Pool Ticket → Pool Ticket → Option Ticket → Type 0
IsUnlent old new None = new ≡ old
IsUnlent old new (Some claim) = IsPut old new claim None

-- the set has the slots of the pieces that can be lent, and room for all
pub record AreFlags (pieces : Pool Piece) (ready : List Bool) : Type 0 where
  pub flags : (slot : ℕ) → has_slot ready slot ≡ has_free (place_at pieces slot).0
  pub room : length pieces.places ≤ length ready

-- each claim lends a piece that says so, and each piece that is lent has its claim
pub record AreTied (pieces : Pool Piece) (claims : Pool Ticket) : Type 0 where
  pub lends : (claim piece : Ticket) → find claims claim ≡ Some piece → (p : Piece) × (find pieces piece ≡ Some p) × (p.lent ≡ Some claim)
  pub lent : (piece claim : Ticket) (p : Piece) → find pieces piece ≡ Some p → p.lent ≡ Some claim → find claims claim ≡ Some piece
