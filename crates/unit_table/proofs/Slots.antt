-- The slots of places.
use Rattle.std.proofs.Common.{◌≡◌, ◌∙◌, ℕ, Option, Some, None, IsSome, refl, sym, ap, subst}
use Rattle.std.specs.Option.{option_and_then, option_map}
use Rattle.unit_table.specs.Board.{Board, HasPlace, piece_at}
use Rattle.unit_table.specs.Keeping.{HasSlot, slot_at, ticket_at}
use Rattle.unit_table.specs.declared.piece.Piece.{Piece}
use Rattle.unit_table.specs.declared.record.Record.{Record}
use Rattle.value_core.specs.Named.{Name, named}
use Rattle.value_core.specs.declared.ticket.Ticket.{Ticket}

some_same : {X : Type 0} (x y : X) → Some x ≡ Some y → x ≡ y
some_same x y e = cc

none_some : {X P : Type 0} (o : Option X) (x : X) → o ≡ None → o ≡ Some x → P
none_some o x none some = absurd (cc)

-- a name that has a slot has its place
pub slot_placed : (b : Board) (name : Name) (slot : ℕ) → slot_at b.records name ≡ Some slot → HasSlot b slot
slot_placed b name slot is = on (named name b.records) refl
  where
    on : (found : Option Record) → named name b.records ≡ found → HasSlot b slot
    on None none = none_some (slot_at b.records name) slot (ap (option_map (λ (r : Record). r.ticket.slot)) none) is
    on (Some r) there = record { name = name; place = r; there = there; slot_is = some_same _ _ (sym (ap (option_map (λ (x : Record). x.ticket.slot)) there) ∙ is) }

pub has_place : (b : Board) (name : Name) (slot : ℕ) → slot_at b.records name ≡ Some slot → HasPlace b name
has_place b name slot is = on (named name b.records) refl
  where
    on : (found : Option Record) → named name b.records ≡ found → HasPlace b name
    on None none = none_some (slot_at b.records name) slot (ap (option_map (λ (r : Record). r.ticket.slot)) none) is
    on (Some r) there = subst (λ o. IsSome o) (sym there) refl

pub slot_of : (b : Board) (slot : ℕ) (has : HasSlot b slot) → slot_at b.records has.name ≡ Some slot
slot_of b slot has = ap (option_map (λ (r : Record). r.ticket.slot)) has.there ∙ ap Some has.slot_is

pub slot_of_ticket : (b : Board) (name : Name) (ticket : Ticket) → ticket_at b.records name ≡ Some ticket → slot_at b.records name ≡ Some ticket.slot
slot_of_ticket b name ticket is = on (named name b.records) refl
  where
    on : (found : Option Record) → named name b.records ≡ found → slot_at b.records name ≡ Some ticket.slot
    on None none = none_some (ticket_at b.records name) ticket (ap (option_map (λ (r : Record). r.ticket)) none) is
    on (Some r) there = ap (option_map (λ (x : Record). x.ticket.slot)) there ∙ ap (λ (t : Ticket). Some t.slot) (some_same _ _ (sym (ap (option_map (λ (x : Record). x.ticket)) there) ∙ is))

-- what stands somewhere has a place
pub stands_placed : (b : Board) (name : Name) → IsSome (piece_at b name) → (r : Record) × (named name b.records ≡ Some r)
stands_placed b name there = on (named name b.records) refl
  where
    on : (found : Option Record) → named name b.records ≡ found → (r : Record) × (named name b.records ≡ Some r)
    on None none = absurd (no_none (piece_at b name) (ap (option_and_then (λ (r : Record). r.piece)) none) there)
      where
        no_none : (o : Option Piece) → o ≡ None → IsSome o → ⊥
        no_none None e is = cc
        no_none (Some p) e is = none_some (Some p) p e refl
    on (Some r) is = (r, is)
