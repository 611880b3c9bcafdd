-- A place that is given up.
use Rattle.std.proofs.Common.{◌≡◌, ◌≢◌, ◌⊎◌, ◌∙◌, ℕ, Bool, List, Option, Some, None, IsSome, true, false, cond, inl, inr, refl, sym, ap, subst, arith, true≢false}
use Rattle.std.specs.BTreeMap.{is_at}
use Rattle.std.specs.Map.{lookup}
use Rattle.std.specs.Option.{IfSome, option_and_then, option_map}
use Rattle.piece_table.specs.Table.{AreTied as AreTiedIn, IsUnlent as IsUnlentIn, Table}
use Rattle.piece_table.specs.declared.piece.Piece.{Piece as Kept}
use Rattle.record_pool.proofs.Finds.{cases_ticket}
use Rattle.record_pool.specs.Pool.{find, next_of}
use Rattle.record_pool.specs.Tickets.{IsPut}
use Rattle.unit_table.specs.Board.{Board, HasPlace, NoneWaits, SameClaims, SamePieces, lent_at, lent_in, lent_to, name_in, piece_at}
use Rattle.unit_table.specs.Keeping.{HasSlot, HasTicket, IsInUse, IsKept, IsPlace, IsPlaceTaken, IsSpare, LosesSlots, board_of, need_at, slot_at, waits_for}
use Rattle.unit_table.specs.Piece.{is_for}
use Rattle.unit_table.specs.declared.places.Places.{Places}
use Rattle.unit_table.specs.declared.record.Record.{Record}
use Rattle.unit_table.proofs.Wakes.{one_slot, waiter_of}
use Rattle.value_core.proofs.NameMaps.{lookup_is_named}
use Rattle.value_core.proofs.NamedLaws.{same_name-equal, same_name-itself, same_or_not}
use Rattle.value_core.specs.Name.{after_cmp}
use Rattle.value_core.specs.Named.{Name, Named, named, same_name}
use Rattle.value_core.specs.declared.ticket.Ticket.{Ticket}
use Rattle.wait_lists.specs.WaitLists.{need_of}

some_same : {X : Type 0} (x y : X) → Some x ≡ Some y → x ≡ y
some_same x y e = cc

none_some : {X P : Type 0} (o : Option X) (x : X) → o ≡ None → o ≡ Some x → P
none_some o x none some = absurd (cc)

-- what is removed from the places is taken out
pub place_taken : (name : Name) (old new : Named Record) → ((q : Name) → lookup (is_at (after_cmp q)) new ≡ cond (is_at (after_cmp name) q) None (lookup (is_at (after_cmp q)) old)) → IsPlaceTaken name old new
place_taken name old new updates q = sym (lookup_is_named q new) ∙ updates q ∙ ap (λ (found : Option Record). cond (same_name name q) None found) (lookup_is_named q old)

-- the spare place of the name is given up, with its piece of the table and the name of its slot
pub record GivesUp (b b_2 : Board) (waits : List (Option ℕ)) (name : Name) (ticket : Ticket) : Type 0 where
  pub spare : IsSpare b waits name ticket
  pub taken : IsPlaceTaken name b.records b_2.records
  pub names : (slot : ℕ) → slot ≢ ticket.slot → name_in b_2.names slot ≡ name_in b.names slot
  pub gone : IsPut b.table.pieces b_2.table.pieces ticket None
  pub claims : IfSome (find b.table.pieces ticket) (λ (k : Kept). IsUnlentIn b.table.claims b_2.table.claims k.lent)
  pub tied : AreTiedIn b_2.table.pieces b_2.table.claims

pub gives_up : (old : Places) (records : Named Record) (names : List (Option Name)) (table : Table) (name : Name) (ticket : Ticket) (result : Option Kept) → IsKept (board_of old) old.waits
    → IsSpare (board_of old) old.waits name ticket → IsPlaceTaken name old.records.entries records → ((slot : ℕ) → slot ≢ ticket.slot → name_in names slot ≡ name_in old.names.items slot)
    → result ≡ find old.table.pieces ticket → (IsSome result → IsPut old.table.pieces table.pieces ticket None) → IfSome result (λ (k : Kept). IsUnlentIn old.table.claims table.claims k.lent)
    → AreTiedIn table.pieces table.claims → GivesUp (board_of old) (record { records = records; names = names; table = table }) old.waits name ticket
gives_up old records names table name ticket result kept spare taken others is gone claims tied = record {
  spare = spare;
  taken = taken;
  names = others;
  gone = gone (subst (λ o. IsSome o) (sym (is ∙ (kept.places name (record { ticket = ticket; piece = None }) spare.there).there)) refl);
  claims = subst (λ o. IfSome o (λ (k : Kept). IsUnlentIn old.table.claims table.claims k.lent)) is claims;
  tied = tied;
}

module _ (b b_2 : Board) (waits : List (Option ℕ)) (name : Name) (ticket : Ticket)
    (kept : IsKept b waits) (gives : GivesUp b b_2 waits name ticket) where
  abbrev r : Record
  r = record { ticket = ticket; piece = None }

  abbrev place : IsPlace b waits name r
  place = kept.places name r gives.spare.there

  here : named name b_2.records ≡ None
  here = gives.taken name ∙ ap (λ t. cond t None (named name b.records)) (same_name-itself name)

  other : (q : Name) → ¬ (q ≡ name) → named q b_2.records ≡ named q b.records
  other q apart = gives.taken q ∙ on (same_name name q) refl
    where
      on : (t : Bool) → same_name name q ≡ t → cond t None (named q b.records) ≡ named q b.records
      on true same = absurd (apart (sym (same_name-equal name q same)))
      on false same = refl

  -- what has a place still has another name
  apart_of : (q : Name) (p : Record) → named q b_2.records ≡ Some p → ¬ (q ≡ name)
  apart_of q p is same = none_some (named q b_2.records) p (ap (λ n. named n b_2.records) same ∙ here) is

  was_named : (q : Name) (p : Record) → named q b_2.records ≡ Some p → named q b.records ≡ Some p
  was_named q p is = sym (other q (apart_of q p is)) ∙ is

  -- and another slot
  slot_apart : (q : Name) (p : Record) → named q b.records ≡ Some p → ¬ (q ≡ name) → p.ticket.slot ≢ ticket.slot
  slot_apart q p is apart e = apart (some_same _ _ (sym (kept.places q p is).called ∙ ap (name_in b.names) e ∙ place.called))

  ticket_apart : (q : Name) (p : Record) → named q b.records ≡ Some p → ¬ (q ≡ name) → p.ticket ≢ ticket
  ticket_apart q p is apart e = slot_apart q p is apart (ap (λ (t : Ticket). t.slot) e)

  -- the place of that name
  is_it : (q : Name) (p : Record) → named q b.records ≡ Some p → q ≡ name → p ≡ r
  is_it q p is same = some_same _ _ (sym is ∙ ap (λ n. named n b.records) same ∙ gives.spare.there)

  slot_here : slot_at b.records name ≡ Some ticket.slot
  slot_here = ap (option_map (λ (p : Record). p.ticket.slot)) gives.spare.there

  slot_same : (q : Name) → ¬ (q ≡ name) → slot_at b_2.records q ≡ slot_at b.records q
  slot_same q apart = ap (option_map (λ (p : Record). p.ticket.slot)) (other q apart)

  -- nothing waits for it
  awaits_other : (p : Record) (f : Name) → need_of waits p.ticket.slot ≡ slot_at b.records f → ¬ (f ≡ name)
  awaits_other p f need same = gives.spare.free p.ticket.slot (need ∙ ap (slot_at b.records) same ∙ slot_here)

  need_same : (p : Record) (for : Option Name) → need_of waits p.ticket.slot ≡ need_at b.records for → need_at b_2.records for ≡ need_at b.records for
  need_same p None need = refl
  need_same p (Some f) need = slot_same f (awaits_other p f need)

  awaited_still : (p : Record) (for : Option Name) → need_of waits p.ticket.slot ≡ need_at b.records for → IfSome for (λ f. IsSome (named f b.records)) → IfSome for (λ f. IsSome (named f b_2.records))
  awaited_still p None need is = is
  awaited_still p (Some f) need is = subst (λ o. IsSome o) (sym (other f (awaits_other p f need))) is

  other_placed : (q : Name) (p : Record) → named q b.records ≡ Some p → ¬ (q ≡ name) → IsPlace b_2 waits q p
  other_placed q p is apart =
      let was = kept.places q p is in
      record {
        called = gives.names p.ticket.slot (slot_apart q p is apart) ∙ was.called;
        room = was.room;
        kept = was.kept;
        there = gives.gone.others p.ticket (ticket_apart q p is apart) ∙ was.there;
        ready = was.ready;
        need = was.need ∙ sym (need_same p (waits_for p.piece) was.need);
        awaited = awaited_still p (waits_for p.piece) was.need was.awaited;
        idle = was.idle;
      }

  -- a live ticket is that of another place
  has_ticket : (t : Ticket) → t ≢ ticket → HasTicket b t → HasTicket b_2 t
  has_ticket t differs has = elim (same_or_not has.name name) [
    | inl same ↦ absurd (differs (sym has.ticket_is ∙ ap (λ (p : Record). p.ticket) (is_it has.name has.place has.there same)))
    | inr apart ↦ record { name = has.name; place = has.place; there = other has.name apart ∙ has.there; ticket_is = has.ticket_is }
  ]

  waits_not : need_of waits ticket.slot ≡ None
  waits_not = place.need

  -- a slot that waits is that of another place
  has_slot_still : (slot need : ℕ) → need_of waits slot ≡ Some need → HasSlot b slot → HasSlot b_2 slot
  has_slot_still slot need is has = elim (same_or_not has.name name) [
    | inl same ↦
        let it : slot ≡ ticket.slot = sym has.slot_is ∙ ap (λ (p : Record). p.ticket.slot) (is_it has.name has.place has.there same) in
        none_some (need_of waits slot) need (ap (need_of waits) it ∙ waits_not) is
    | inr apart ↦ record { name = has.name; place = has.place; there = other has.name apart ∙ has.there; slot_is = has.slot_is }
  ]

  pub forgotten_keeps : IsKept b_2 waits
  forgotten_keeps = record {
    places = λ q p is. other_placed q p (was_named q p is) (apart_of q p is);
    tickets = λ t k is. elim (cases_ticket t ticket) [
      | inl same ↦ none_some (find b_2.table.pieces t) k (ap (find b_2.table.pieces) same ∙ gives.gone.here) is
      | inr differs ↦ has_ticket t differs (kept.tickets t k (sym (gives.gone.others t differs) ∙ is))
    ];
    waiting = λ slot need is. has_slot_still slot need is (kept.waiting slot need is);
    tied = gives.tied;
  }

  pub forgotten_pieces : SamePieces b b_2
  forgotten_pieces q = elim (same_or_not q name) [
    | inl same ↦
        ap (piece_at b_2) same ∙ ap (option_and_then (λ (p : Record). p.piece)) here
        ∙ sym (ap (piece_at b) same ∙ ap (option_and_then (λ (p : Record). p.piece)) gives.spare.there)
    | inr apart ↦ ap (option_and_then (λ (p : Record). p.piece)) (other q apart)
  ]

  not_lent : place.kept.lent ≡ None
  not_lent = place.idle place.ready

  same_claims : b_2.table.claims ≡ b.table.claims
  same_claims = subst (IsUnlentIn b.table.claims b_2.table.claims) not_lent (subst (λ o. IfSome o (λ (k : Kept). IsUnlentIn b.table.claims b_2.table.claims k.lent)) place.there gives.claims)

  lent_same : (q : Name) → lent_at b_2 q ≡ lent_at b q
  lent_same q = elim (same_or_not q name) [
    | inl same ↦
        ap (lent_at b_2) same ∙ ap (option_and_then (λ (p : Record). lent_in b_2.table p.ticket)) here
        ∙ sym (ap (lent_at b) same ∙ ap (option_and_then (λ (p : Record). lent_in b.table p.ticket)) gives.spare.there ∙ ap (option_and_then (λ (k : Kept). k.lent)) place.there ∙ not_lent)
    | inr apart ↦ ap (option_and_then (λ (p : Record). lent_in b_2.table p.ticket)) (other q apart) ∙ on apart (named q b.records) refl
  ]
    where
      on : ¬ (q ≡ name) → (found : Option Record) → named q b.records ≡ found → option_and_then (λ (p : Record). lent_in b_2.table p.ticket) found ≡ option_and_then (λ (p : Record). lent_in b.table p.ticket) found
      on apart None is = refl
      on apart (Some p) is = ap (option_and_then (λ (k : Kept). k.lent)) (gives.gone.others p.ticket (ticket_apart q p is apart))

  -- what a claim lends has another slot
  lent_apart : (claim t : Ticket) → find b.table.claims claim ≡ Some t → t.slot ≢ ticket.slot
  lent_apart claim t found e =
      let tie = kept.tied.lends claim t found in
      let has = kept.tickets t tie.0 tie.1 in
      elim (same_or_not has.name name) [
        | inl same ↦
            let it : t ≡ ticket = sym has.ticket_is ∙ ap (λ (p : Record). p.ticket) (is_it has.name has.place has.there same) in
            let lent : place.kept.lent ≡ Some claim = ap (λ (k : Kept). k.lent) (some_same _ _ (sym place.there ∙ ap (find b.table.pieces) (sym it) ∙ tie.1)) ∙ tie.2 in
            none_some place.kept.lent claim not_lent lent
        | inr apart ↦ slot_apart has.name has.place has.there apart (ap (λ (u : Ticket). u.slot) has.ticket_is ∙ e)
      ]

  to_same : (claim : Ticket) → lent_to b_2 claim ≡ lent_to b claim
  to_same claim = ap (λ p. option_and_then (λ (t : Ticket). name_in b_2.names t.slot) (find p claim)) same_claims ∙ on (find b.table.claims claim) refl
    where
      on : (found : Option Ticket) → find b.table.claims claim ≡ found → option_and_then (λ (t : Ticket). name_in b_2.names t.slot) found ≡ option_and_then (λ (t : Ticket). name_in b.names t.slot) found
      on None is = refl
      on (Some t) is = gives.names t.slot (lent_apart claim t is)

  pub forgotten_claims : SameClaims b b_2
  forgotten_claims = record { lent = lent_same; to = to_same; later = λ slot. omega (arith, ap (λ p. next_of p slot) same_claims) }

  pub forgotten_places : (q : Name) → ¬ (q ≡ name) → HasPlace b q → HasPlace b_2 q
  forgotten_places q apart there = subst (λ o. IsSome o) (sym (other q apart)) there

  pub forgotten_gone : HasPlace b_2 name → ⊥
  forgotten_gone there = true≢false (sym (subst (λ o. IsSome o) here there))

  pub forgotten_slots : LosesSlots b b_2
  forgotten_slots = record {
    kept = λ q slot is. elim (same_or_not q name) [
      | inl same ↦ none_some (slot_at b_2.records q) slot (ap (slot_at b_2.records) same ∙ ap (option_map (λ (p : Record). p.ticket.slot)) here) is
      | inr apart ↦ sym (slot_same q apart) ∙ is
    ];
    lost = λ q slot is. elim (same_or_not q name) [
      | inl same ↦ inr (ap (piece_at b) same ∙ ap (option_and_then (λ (p : Record). p.piece)) gives.spare.there)
      | inr apart ↦ inl (slot_same q apart ∙ is)
    ];
  }

-- a place stays where something stands there, or something waits for it
pub in_use : (b : Board) (waits : List (Option ℕ)) (name : Name) → IsKept b waits → IsInUse b waits name → piece_at b name ≡ None → NoneWaits name b → HasPlace b name → ⊥
in_use b waits name kept used empty none there = on (named name b.records) refl used there
  where
    waited : (r : Record) → named name b.records ≡ Some r → (slot : ℕ) → need_of waits slot ≡ Some r.ticket.slot → ⊥
    waited r is slot waiting =
        let has = kept.waiting slot r.ticket.slot waiting in
        let place = kept.places has.name has.place has.there in
        let waiter = waiter_of b has.place r.ticket.slot (sym place.need ∙ ap (need_of waits) has.slot_is ∙ waiting) in
        let its : waiter.for ≡ name = one_slot b waits kept waiter.for name r.ticket.slot waiter.slot (ap (option_map (λ (p : Record). p.ticket.slot)) is) in
        let stands : piece_at b has.name ≡ Some waiter.stood = ap (option_and_then (λ (p : Record). p.piece)) has.there ∙ waiter.stands in
        true≢false (sym (ap (is_for name) (waiter.awaits ∙ ap Some its) ∙ same_name-itself name) ∙ none has.name waiter.stood stands)

    on : (found : Option Record) → named name b.records ≡ found → IfSome found (λ (r : Record). IsSome r.piece ⊎ ((slot : ℕ) × (need_of waits slot ≡ Some r.ticket.slot))) → IsSome found → ⊥
    on None absent used there = true≢false (sym there)
    on (Some r) is used there = elim used [
      | inl stands ↦ true≢false (sym (subst (λ o. IsSome o) (sym (ap (option_and_then (λ (p : Record). p.piece)) is) ∙ empty) stands))
      | inr waiting ↦ waited r is waiting.0 waiting.1
    ]
