-- What changes nothing that is known of the places, and a place that is made.
use Rattle.std.proofs.Common.{◌≡◌, ◌≢◌, ◌<◌, ◌≤◌, ◌+◌, ◌∙◌, ℕ, List, Option, Some, None, IsSome, false, length, inl, inr, refl, sym, ap, subst, arith}
use Rattle.std.specs.Option.{IfSome, option_and_then, option_map}
use Rattle.piece_table.specs.Table.{AreTied as AreTiedIn, IsUnlent as IsUnlentIn, Table}
use Rattle.record_pool.specs.Tickets.{IsGiven, IsPut}
use Rattle.piece_table.specs.declared.piece.Piece.{Piece as Kept}
use Rattle.record_pool.proofs.Finds.{cases_ticket, place_found}
use Rattle.record_pool.specs.Pool.{Pool, find, next_of}
use Rattle.unit_table.specs.Board.{Board, HasPlace, SameClaims, SamePieces, lent_at, lent_in, lent_to, name_in, piece_at}
use Rattle.unit_table.specs.Keeping.{IsKept, IsNoSlotMade, IsPlace, IsSlotMade, KeepsSlots, board_of, need_at, slot_at, ticket_at, waits_for}
use Rattle.unit_table.specs.declared.places.Places.{Places}
use Rattle.unit_table.specs.declared.record.Record.{Record}
use Rattle.unit_table.proofs.Slots.{has_place}
use Rattle.value_core.proofs.NamedLaws.{named-here, named-other, same_or_not}
use Rattle.value_core.specs.Named.{Name, Named, named, with_named}
use Rattle.value_core.specs.declared.ticket.Ticket.{Ticket}
use Rattle.wait_lists.specs.WaitLists.{need_of}

some_same : {X : Type 0} (x y : X) → Some x ≡ Some y → x ≡ y
some_same x y e = cc

-- the same places with the same pieces and the same claims
pub record Same (b b_2 : Board) (waits waits_2 : List (Option ℕ)) : Type 0 where
  pub records : b_2.records ≡ b.records
  pub pieces : (ticket : Ticket) → find b_2.table.pieces ticket ≡ find b.table.pieces ticket
  pub claims : (claim : Ticket) → find b_2.table.claims claim ≡ find b.table.claims claim
  pub later : (slot : ℕ) → next_of b.table.claims slot ≤ next_of b_2.table.claims slot
  pub names : (ticket : Ticket) (k : Kept) → find b.table.pieces ticket ≡ Some k → name_in b_2.names ticket.slot ≡ name_in b.names ticket.slot
  pub need : (slot : ℕ) → need_of waits_2 slot ≡ need_of waits slot
  pub room : length waits ≤ length waits_2
  pub tied : AreTiedIn b_2.table.pieces b_2.table.claims

module _ (b b_2 : Board) (waits waits_2 : List (Option ℕ)) (kept : IsKept b waits) (same : Same b b_2 waits waits_2) where
  place : (q : Name) (p : Record) → named q b.records ≡ Some p → IsPlace b_2 waits_2 q p
  place q p is =
      let was = kept.places q p is in
      record {
        called = same.names p.ticket was.kept was.there ∙ was.called;
        room = omega (arith, was.room, same.room);
        kept = was.kept;
        there = same.pieces p.ticket ∙ was.there;
        ready = was.ready;
        need = same.need p.ticket.slot ∙ was.need ∙ sym (ap (λ rs. need_at rs (waits_for p.piece)) same.records);
        awaited = subst (λ rs. IfSome (waits_for p.piece) (λ f. IsSome (named f rs))) (sym same.records) was.awaited;
        idle = was.idle;
      }

  still : (q : Name) (p : Record) → named q b.records ≡ Some p → named q b_2.records ≡ Some p
  still q p is = ap (named q) same.records ∙ is

  pub same_keeps : IsKept b_2 waits_2
  same_keeps = record {
    places = λ q p is. place q p (sym (ap (named q) same.records) ∙ is);
    tickets = λ ticket k is. let has = kept.tickets ticket k (sym (same.pieces ticket) ∙ is) in record { name = has.name; place = has.place; there = still has.name has.place has.there; ticket_is = has.ticket_is };
    waiting = λ slot need is. let has = kept.waiting slot need (sym (same.need slot) ∙ is) in record { name = has.name; place = has.place; there = still has.name has.place has.there; slot_is = has.slot_is };
    tied = same.tied;
  }

  pub same_keeps_slots : KeepsSlots b b_2
  same_keeps_slots = record {
    kept = λ q has. ap (λ rs. slot_at rs q) same.records;
    near = λ q slot is. inl (has_place b q slot (sym (ap (λ rs. slot_at rs q) same.records) ∙ is));
  }

  pub same_pieces : SamePieces b b_2
  same_pieces q = ap (λ rs. option_and_then (λ (p : Record). p.piece) (named q rs)) same.records

  lent_same : (q : Name) → lent_at b_2 q ≡ lent_at b q
  lent_same q = ap (λ rs. option_and_then (λ (p : Record). lent_in b_2.table p.ticket) (named q rs)) same.records ∙ on (named q b.records)
    where
      on : (found : Option Record) → option_and_then (λ (p : Record). lent_in b_2.table p.ticket) found ≡ option_and_then (λ (p : Record). lent_in b.table p.ticket) found
      on None = refl
      on (Some p) = ap (option_and_then (λ (k : Kept). k.lent)) (same.pieces p.ticket)

  to_same : (claim : Ticket) → lent_to b_2 claim ≡ lent_to b claim
  to_same claim = ap (option_and_then (λ (t : Ticket). name_in b_2.names t.slot)) (same.claims claim) ∙ on (find b.table.claims claim) refl
    where
      on : (found : Option Ticket) → find b.table.claims claim ≡ found → option_and_then (λ (t : Ticket). name_in b_2.names t.slot) found ≡ option_and_then (λ (t : Ticket). name_in b.names t.slot) found
      on None is = refl
      on (Some t) is = let tie = kept.tied.lends claim t is in same.names t tie.0 tie.1

  pub same_claims : SameClaims b b_2
  same_claims = record { lent = lent_same; to = to_same; later = same.later }

-- an empty place is made
pub record Makes (b b_2 : Board) (waits waits_2 : List (Option ℕ)) (name : Name) (ticket : Ticket) : Type 0 where
  pub absent : named name b.records ≡ None
  pub records : b_2.records ≡ with_named b.records name (record { ticket = ticket; piece = None })
  pub given : IsGiven b.table.pieces b_2.table.pieces ticket (record { is_ready = false; lent = None })
  pub claims : b_2.table.claims ≡ b.table.claims
  pub tied : AreTiedIn b_2.table.pieces b_2.table.claims
  pub called : name_in b_2.names ticket.slot ≡ Some name
  pub near : ticket.slot ≤ length b.table.pieces.places
  pub others : (slot : ℕ) → slot ≢ ticket.slot → name_in b_2.names slot ≡ name_in b.names slot
  pub need : (slot : ℕ) → need_of waits_2 slot ≡ need_of waits slot
  pub room : length waits ≤ length waits_2
  pub can_wait : ticket.slot < length waits_2

-- no live ticket has the slot of one that is given
pub given_apart : (old new : Pool Kept) (ticket : Ticket) (now : Kept) → IsGiven old new ticket now → (t : Ticket) (k : Kept) → find old t ≡ Some k → t.slot ≢ ticket.slot
given_apart old new ticket now given t k is e =
    let was : next_of old t.slot ≡ t.generation + 1 = ap (λ q. q.1) (place_found old t k is) in
    let fresh : next_of old t.slot ≤ ticket.generation = subst (λ s. next_of old s ≤ ticket.generation) (sym e) given.fresh in
    let apart : t ≢ ticket = λ same. not_less t.generation ticket.generation (ap (λ (u : Ticket). u.generation) same) (omega (arith, was, fresh)) in
    let still_live : find new t ≡ Some k = given.put.others t apart ∙ is in
    let one : next_of new t.slot ≡ t.generation + 1 = ap (λ q. q.1) (place_found new t k still_live) in
    let two : next_of new t.slot ≡ ticket.generation + 1 = ap (next_of new) e ∙ ap (λ q. q.1) (place_found new ticket now given.put.here) in
    not_less t.generation ticket.generation (omega (arith, one, two)) (omega (arith, was, fresh))
  where
    not_less : (m n : ℕ) → m ≡ n → m < n → ⊥
    not_less m n same less = omega (arith, same, less)

module _ (b b_2 : Board) (waits waits_2 : List (Option ℕ)) (name : Name) (ticket : Ticket)
    (kept : IsKept b waits) (makes : Makes b b_2 waits waits_2 name ticket) where
  abbrev made : Record
  made = record { ticket = ticket; piece = None }

  here : named name b_2.records ≡ Some made
  here = ap (named name) makes.records ∙ named-here name made b.records

  other : (q : Name) → ¬ (q ≡ name) → named q b_2.records ≡ named q b.records
  other q apart = ap (named q) makes.records ∙ named-other q name made b.records apart

  none_some : {X P : Type 0} (o : Option X) (x : X) → o ≡ None → o ≡ Some x → P
  none_some o x none some = absurd (cc)

  -- what was there has another name
  apart_of : (q : Name) (p : Record) → named q b.records ≡ Some p → ¬ (q ≡ name)
  apart_of q p is same = none_some (named name b.records) p makes.absent (sym (ap (λ n. named n b.records) same) ∙ is)

  slot_apart : (q : Name) (p : Record) → named q b.records ≡ Some p → p.ticket.slot ≢ ticket.slot
  slot_apart q p is = let was = kept.places q p is in given_apart b.table.pieces b_2.table.pieces ticket _ makes.given p.ticket was.kept was.there

  found_still : (q : Name) (p : Record) → named q b.records ≡ Some p → named q b_2.records ≡ Some p
  found_still q p is = other q (apart_of q p is) ∙ is

  slot_kept : (q : Name) → IsSome (named q b.records) → slot_at b_2.records q ≡ slot_at b.records q
  slot_kept q is = on (named q b.records) refl is
    where
      on : (found : Option Record) → named q b.records ≡ found → IsSome found → slot_at b_2.records q ≡ slot_at b.records q
      on None none there = absurd (cc)
      on (Some p) found there = ap (option_map (λ (x : Record). x.ticket.slot)) (found_still q p found ∙ sym found)

  need_kept : (for : Option Name) → IfSome for (λ f. IsSome (named f b.records)) → need_at b_2.records for ≡ need_at b.records for
  need_kept None is = refl
  need_kept (Some q) is = slot_kept q is

  has_still : (q : Name) → IsSome (named q b.records) → IsSome (named q b_2.records)
  has_still q is = on (named q b.records) refl is
    where
      on : (found : Option Record) → named q b.records ≡ found → IsSome found → IsSome (named q b_2.records)
      on None none there = absurd (cc)
      on (Some p) found there = subst (λ o. IsSome o) (sym (found_still q p found)) refl

  awaited_still : (for : Option Name) → IfSome for (λ f. IsSome (named f b.records)) → IfSome for (λ f. IsSome (named f b_2.records))
  awaited_still None is = is
  awaited_still (Some q) is = has_still q is

  none_waits : (found : Option ℕ) → need_of waits ticket.slot ≡ found → found ≡ None
  none_waits None is = refl
  none_waits (Some need) is = let has = kept.waiting ticket.slot need is in absurd (slot_apart has.name has.place has.there has.slot_is)

  here_placed : IsPlace b_2 waits_2 name made
  here_placed = record {
    called = makes.called;
    room = makes.can_wait;
    kept = record { is_ready = false; lent = None };
    there = makes.given.put.here;
    ready = refl;
    need = makes.need ticket.slot ∙ none_waits _ refl;
    awaited = tt;
    idle = λ _. refl;
  }

  other_placed : (q : Name) (p : Record) → named q b.records ≡ Some p → IsPlace b_2 waits_2 q p
  other_placed q p is =
      let was = kept.places q p is in
      let slot = slot_apart q p is in
      record {
        called = makes.others p.ticket.slot slot ∙ was.called;
        room = omega (arith, was.room, makes.room);
        kept = was.kept;
        there = makes.given.put.others p.ticket (λ e. slot (ap (λ (t : Ticket). t.slot) e)) ∙ was.there;
        ready = was.ready;
        need = makes.need p.ticket.slot ∙ was.need ∙ sym (need_kept (waits_for p.piece) was.awaited);
        awaited = awaited_still (waits_for p.piece) was.awaited;
        idle = was.idle;
      }

  pub made_keeps : IsKept b_2 waits_2
  made_keeps = record {
    places = λ q p is. elim (same_or_not q name) [
      | inl same ↦
          let it : made ≡ p = some_same _ _ (sym here ∙ ap (λ n. named n b_2.records) (sym same) ∙ is) in
          subst (λ n. IsPlace b_2 waits_2 n p) (sym same) (subst (λ x. IsPlace b_2 waits_2 name x) it here_placed)
      | inr apart ↦ other_placed q p (sym (other q apart) ∙ is)
    ];
    tickets = λ t k is. elim (cases_ticket t ticket) [
      | inl same ↦ record { name = name; place = made; there = here; ticket_is = sym same }
      | inr apart ↦ let has = kept.tickets t k (sym (makes.given.put.others t apart) ∙ is) in record { name = has.name; place = has.place; there = found_still has.name has.place has.there; ticket_is = has.ticket_is }
    ];
    waiting = λ slot need is. let has = kept.waiting slot need (sym (makes.need slot) ∙ is) in record { name = has.name; place = has.place; there = found_still has.name has.place has.there; slot_is = has.slot_is };
    tied = makes.tied;
  }

  pub made_keeps_slots : KeepsSlots b b_2
  made_keeps_slots = record {
    kept = slot_kept;
    near = λ q slot is. elim (same_or_not q name) [
      | inl same ↦
          let it : ticket.slot ≡ slot = some_same _ _ (sym (ap (slot_at b_2.records) same ∙ ap (option_map (λ (p : Record). p.ticket.slot)) here) ∙ is) in
          inr (omega (arith, makes.near, it))
      | inr apart ↦ inl (has_place b q slot (sym (ap (option_map (λ (p : Record). p.ticket.slot)) (other q apart)) ∙ is))
    ];
  }

  pub made_pieces : SamePieces b b_2
  made_pieces q = elim (same_or_not q name) [
    | inl same ↦ ap (piece_at b_2) same ∙ ap (option_and_then (λ (p : Record). p.piece)) here ∙ sym (ap (piece_at b) same ∙ ap (option_and_then (λ (p : Record). p.piece)) makes.absent)
    | inr apart ↦ ap (option_and_then (λ (p : Record). p.piece)) (other q apart)
  ]

  lent_kept : (q : Name) → lent_at b_2 q ≡ lent_at b q
  lent_kept q = elim (same_or_not q name) [
    | inl same ↦
        ap (lent_at b_2) same ∙ ap (option_and_then (λ (p : Record). lent_in b_2.table p.ticket)) here ∙ ap (option_and_then (λ (k : Kept). k.lent)) makes.given.put.here
        ∙ sym (ap (lent_at b) same ∙ ap (option_and_then (λ (p : Record). lent_in b.table p.ticket)) makes.absent)
    | inr apart ↦ ap (option_and_then (λ (p : Record). lent_in b_2.table p.ticket)) (other q apart) ∙ on (named q b.records) refl
  ]
    where
      on : (found : Option Record) → named q b.records ≡ found → option_and_then (λ (p : Record). lent_in b_2.table p.ticket) found ≡ option_and_then (λ (p : Record). lent_in b.table p.ticket) found
      on None is = refl
      on (Some p) is = ap (option_and_then (λ (k : Kept). k.lent)) (makes.given.put.others p.ticket (λ e. slot_apart q p is (ap (λ (t : Ticket). t.slot) e)))

  to_kept : (claim : Ticket) → lent_to b_2 claim ≡ lent_to b claim
  to_kept claim = ap (λ p. option_and_then (λ (t : Ticket). name_in b_2.names t.slot) (find p claim)) makes.claims ∙ on (find b.table.claims claim) refl
    where
      on : (found : Option Ticket) → find b.table.claims claim ≡ found → option_and_then (λ (t : Ticket). name_in b_2.names t.slot) found ≡ option_and_then (λ (t : Ticket). name_in b.names t.slot) found
      on None is = refl
      on (Some t) is =
          let tie = kept.tied.lends claim t is in
          makes.others t.slot (given_apart b.table.pieces b_2.table.pieces ticket _ makes.given t tie.0 tie.1)

  pub made_claims : SameClaims b b_2
  made_claims = record { lent = lent_kept; to = to_kept; later = λ slot. omega (arith, ap (λ p. next_of p slot) makes.claims) }

  pub made_ticket : ticket_at b_2.records name ≡ Some ticket
  made_ticket = ap (option_map (λ (p : Record). p.ticket)) here

  pub made_places : (q : Name) → HasPlace b q → HasPlace b_2 q
  made_places = has_still

-- no slot was made
pub no_slot : (old new : Places) → IsKept (board_of old) old.waits → IsNoSlotMade old new → Same (board_of old) (board_of new) old.waits new.waits
no_slot old new kept none = record {
  records = ap (λ (m : _). m.entries) none.waits.records;
  pieces = none.pieces;
  claims = λ claim. ap (λ p. find p claim) none.waits.claims;
  later = λ slot. omega (arith, ap (λ p. next_of p slot) none.waits.claims);
  names = λ t k is. none.names t.slot;
  need = none.waits.need;
  room = none.waits.room;
  tied = record {
    lends = λ claim t is. let tie = kept.tied.lends claim t (sym (ap (λ p. find p claim) none.waits.claims) ∙ is) in (tie.0, none.pieces t ∙ tie.1, tie.2);
    lent = λ t claim k is lent. ap (λ p. find p claim) none.waits.claims ∙ kept.tied.lent t claim k (sym (none.pieces t) ∙ is) lent;
  };
}

-- a slot was made, and a place for it
pub makes_of : (old mid : Places) (records : Named Record) (name : Name) (ticket : Ticket) → named name old.records.entries ≡ None → IsSlotMade old mid name ticket
    → records ≡ with_named mid.records.entries name (record { ticket = ticket; piece = None }) → AreTiedIn mid.table.pieces mid.table.claims
    → Makes (board_of old) (record { records = records; names = mid.names.items; table = mid.table }) old.waits mid.waits name ticket
makes_of old mid records name ticket absent made put tied = record {
  absent = absent;
  records = put ∙ ap (λ (m : _). with_named m.entries name (record { ticket = ticket; piece = None })) made.waits.records;
  given = made.given;
  claims = made.waits.claims;
  tied = tied;
  called = made.called;
  near = made.near;
  others = made.others;
  need = made.waits.need;
  room = made.waits.room;
  can_wait = made.can_wait;
}

-- a slot was made, and no place for it: its piece was taken out again
pub undone : (old mid : Places) (records : Named Record) (table : Table) (name : Name) (ticket : Ticket) → IsKept (board_of old) old.waits → IsSlotMade old mid name ticket
    → records ≡ mid.records.entries → IsPut mid.table.pieces table.pieces ticket None → table.claims ≡ mid.table.claims → AreTiedIn table.pieces table.claims
    → Same (board_of old) (record { records = records; names = mid.names.items; table = table }) old.waits mid.waits
undone old mid records table name ticket kept made same gone claims tied = record {
  records = same ∙ ap (λ (m : _). m.entries) made.waits.records;
  pieces = λ t. elim (cases_ticket t ticket) [
    | inl is ↦ ap (find table.pieces) is ∙ gone.here ∙ sym (ap (find old.table.pieces) is ∙ vacant)
    | inr apart ↦ gone.others t apart ∙ made.given.put.others t apart
  ];
  claims = λ claim. ap (λ p. find p claim) (claims ∙ made.waits.claims);
  later = λ slot. omega (arith, ap (λ p. next_of p slot) (claims ∙ made.waits.claims));
  names = λ t k is. made.others t.slot (given_apart old.table.pieces mid.table.pieces ticket _ made.given t k is);
  need = made.waits.need;
  room = made.waits.room;
  tied = tied;
}
  where
    vacant : find old.table.pieces ticket ≡ None
    vacant = on (find old.table.pieces ticket) refl
      where
        on : (found : Option Kept) → find old.table.pieces ticket ≡ found → found ≡ None
        on None is = refl
        on (Some k) is = absurd (given_apart old.table.pieces mid.table.pieces ticket _ made.given ticket k is refl)

-- a piece that is there and not lent is taken out: it is gone, and the claims stay
pub taken_out : (pieces pieces_2 : Pool Kept) (ticket : Ticket) (result : Option Kept) {k : Kept} → find pieces ticket ≡ Some k → result ≡ find pieces ticket
    → (IsSome result → IsPut pieces pieces_2 ticket None) → IsPut pieces pieces_2 ticket None
taken_out pieces pieces_2 ticket result there is gone = gone (subst (λ o. IsSome o) (sym (is ∙ there)) refl)

pub claims_stay : (table table_2 : Table) (ticket : Ticket) (result : Option Kept) → find table.pieces ticket ≡ Some (record { is_ready = false; lent = None }) → result ≡ find table.pieces ticket
    → IfSome result (λ (k : Kept). IsUnlentIn table.claims table_2.claims k.lent) → table_2.claims ≡ table.claims
claims_stay table table_2 ticket result there is claims = subst (λ o. IfSome o (λ (k : Kept). IsUnlentIn table.claims table_2.claims k.lent)) (is ∙ there) claims
