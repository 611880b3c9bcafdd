-- What stands in one place is changed: all is kept, and nothing else is lent otherwise.
use Rattle.std.proofs.Common.{◌≡◌, ◌≢◌, ◌≤◌, ◌∙◌, ℕ, Bool, List, Option, Some, None, IsSome, true, false, cond, length, inl, inr, refl, sym, ap, subst, arith}
use Rattle.std.specs.Option.{IfSome, option_and_then, option_map}
use Rattle.std.proofs.lemmas.Bool.{cases_eq}
use Rattle.piece_table.specs.Table.{AreTied as AreTiedIn, IsUnlent as IsUnlentIn}
use Rattle.record_pool.specs.Tickets.{IsPut}
use Rattle.piece_table.specs.declared.piece.Piece.{Piece as Kept}
use Rattle.record_pool.proofs.Finds.{cases_ticket}
use Rattle.record_pool.specs.Pool.{find, next_of}
use Rattle.unit_table.specs.Board.{Board, IsPutAt, IsUnlent, NoneAgain, SameClaims, but_for, lent_at, lent_in, lent_to, marks_ready, name_in}
use Rattle.unit_table.specs.Keeping.{HasSlot, HasTicket, IsKept, IsPlace, need_at, slot_at, waits_for}
use Rattle.unit_table.specs.declared.piece.Piece.{Piece}
use Rattle.unit_table.specs.declared.record.Record.{Record}
use Rattle.value_core.proofs.NamedLaws.{same_name-equal, same_name-itself, same_or_not}
use Rattle.value_core.specs.Named.{Name, named, same_name}
use Rattle.value_core.specs.declared.ticket.Ticket.{Ticket}
use Rattle.wait_lists.specs.WaitLists.{need_of}

some_same : {X : Type 0} (x y : X) → Some x ≡ Some y → x ≡ y
some_same x y e = cc

none_some : {X P : Type 0} (o : Option X) (x : X) → o ≡ None → o ≡ Some x → P
none_some o x none some = absurd (cc)

-- a piece of the table that is kept has the place of its ticket, and the name of its slot
module _ (b : Board) (waits : List (Option ℕ)) (kept : IsKept b waits) where
  -- what a claim lends says so
  pub lends : (claim : Ticket) (name : Name) (r : Record) → named name b.records ≡ Some r → lent_to b claim ≡ Some name → lent_in b.table r.ticket ≡ Some claim
  lends claim name r there to = on (find b.table.claims claim) refl
    where
      on_piece : (t : Ticket) → find b.table.claims claim ≡ Some t → name_in b.names t.slot ≡ Some name → lent_in b.table r.ticket ≡ Some claim
      on_piece t found called =
          let tie = kept.tied.lends claim t found in
          let has = kept.tickets t tie.0 tie.1 in
          let place = kept.places has.name has.place has.there in
          let same_name : has.name ≡ name = some_same _ _ (sym place.called ∙ ap (λ (u : Ticket). name_in b.names u.slot) has.ticket_is ∙ called) in
          let same_place : has.place ≡ r = some_same _ _ (sym has.there ∙ ap (λ n. named n b.records) same_name ∙ there) in
          let ticket : r.ticket ≡ t = ap (λ (p : Record). p.ticket) (sym same_place) ∙ has.ticket_is in
          ap (λ u. lent_in b.table u) ticket ∙ ap (λ o. option_and_then (λ (p : Kept). p.lent) o) tie.1 ∙ tie.2

      on : (o : Option Ticket) → find b.table.claims claim ≡ o → lent_in b.table r.ticket ≡ Some claim
      on None none = none_some (lent_to b claim) name (ap (λ o. option_and_then (λ (t : Ticket). name_in b.names t.slot) o) none) to
      on (Some t) found = on_piece t found (sym (ap (λ o. option_and_then (λ (u : Ticket). name_in b.names u.slot) o) found) ∙ to)

-- the place of that name has that in it, and is lent so; nothing else is changed but for what waits there
pub record Changes (b b_2 : Board) (waits waits_2 : List (Option ℕ)) (name : Name) (r : Record) (piece : Option Piece) (lent : Option Ticket) : Type 0 where
  pub there : named name b.records ≡ Some r
  pub here : named name b_2.records ≡ Some (record r { piece = piece })
  pub others : (q : Name) → ¬ (q ≡ name) → named q b_2.records ≡ named q b.records
  pub names : b_2.names ≡ b.names
  pub put : IsPut b.table.pieces b_2.table.pieces r.ticket (Some (record { is_ready = marks_ready piece; lent = lent }))
  pub idle : marks_ready piece ≡ false → lent ≡ None
  pub tied : AreTiedIn b_2.table.pieces b_2.table.claims
  pub need_here : need_of waits_2 r.ticket.slot ≡ need_at b.records (waits_for piece)
  pub need_others : (slot : ℕ) → slot ≢ r.ticket.slot → need_of waits_2 slot ≡ need_of waits slot
  pub room : length waits ≤ length waits_2
  pub can_wait : IfSome (waits_for piece) (λ f. IsSome (named f b.records))

module _ (b b_2 : Board) (waits waits_2 : List (Option ℕ)) (name : Name) (r : Record) (piece : Option Piece) (lent : Option Ticket)
    (kept : IsKept b waits) (ch : Changes b b_2 waits waits_2 name r piece lent) where
  abbrev after : Record
  after = record r { piece = piece }

  abbrev pub old : IsPlace b waits name r
  old = kept.places name r ch.there

  pub there_still : (q : Name) → IsSome (named q b.records) → IsSome (named q b_2.records)
  there_still q is = elim (same_or_not q name) [
    | inl same ↦ subst (λ o. IsSome o) (sym (ap (λ n. named n b_2.records) same ∙ ch.here)) refl
    | inr apart ↦ subst (λ o. IsSome o) (sym (ch.others q apart)) is
  ]

  pub slot_same : (q : Name) → slot_at b_2.records q ≡ slot_at b.records q
  slot_same q = elim (same_or_not q name) [
    | inl same ↦ ap (slot_at b_2.records) same ∙ ap (option_map (λ (p : Record). p.ticket.slot)) ch.here ∙ sym (ap (slot_at b.records) same ∙ ap (option_map (λ (p : Record). p.ticket.slot)) ch.there)
    | inr apart ↦ ap (option_map (λ (p : Record). p.ticket.slot)) (ch.others q apart)
  ]

  need_same : (for : Option Name) → need_at b_2.records for ≡ need_at b.records for
  need_same None = refl
  need_same (Some q) = slot_same q

  awaited_still : (for : Option Name) → IfSome for (λ f. IsSome (named f b.records)) → IfSome for (λ f. IsSome (named f b_2.records))
  awaited_still None is = is
  awaited_still (Some q) is = there_still q is

  -- what stands there now, and elsewhere
  pub put : IsPutAt name piece b b_2
  put = record {
    here = ap (option_and_then (λ (p : Record). p.piece)) ch.here;
    others = λ q apart. ap (option_and_then (λ (p : Record). p.piece)) (ch.others q apart);
  }

  here_placed : IsPlace b_2 waits_2 name after
  here_placed = record {
    called = ap (λ ns. name_in ns r.ticket.slot) ch.names ∙ old.called;
    room = omega (arith, old.room, ch.room);
    kept = record { is_ready = marks_ready piece; lent = lent };
    there = ch.put.here;
    ready = refl;
    need = ch.need_here ∙ sym (need_same (waits_for piece));
    awaited = awaited_still (waits_for piece) ch.can_wait;
    idle = ch.idle;
  }

  -- another place has another slot
  slot_apart : (q : Name) (p : Record) → named q b.records ≡ Some p → ¬ (q ≡ name) → p.ticket.slot ≢ r.ticket.slot
  slot_apart q p is apart e = apart (some_same _ _ (sym (kept.places q p is).called ∙ ap (name_in b.names) e ∙ old.called))

  other_placed : (q : Name) (p : Record) → named q b.records ≡ Some p → ¬ (q ≡ name) → IsPlace b_2 waits_2 q p
  other_placed q p is apart =
      let was = kept.places q p is in
      let slot = slot_apart q p is apart in
      record {
        called = ap (λ ns. name_in ns p.ticket.slot) ch.names ∙ was.called;
        room = omega (arith, was.room, ch.room);
        kept = was.kept;
        there = ch.put.others p.ticket (λ e. slot (ap (λ (t : Ticket). t.slot) e)) ∙ was.there;
        ready = was.ready;
        need = ch.need_others p.ticket.slot slot ∙ was.need ∙ sym (need_same (waits_for p.piece));
        awaited = awaited_still (waits_for p.piece) was.awaited;
        idle = was.idle;
      }

  has_ticket : (ticket : Ticket) → HasTicket b ticket → HasTicket b_2 ticket
  has_ticket ticket has = elim (same_or_not has.name name) [
    | inl same ↦
        let is : has.place ≡ r = some_same _ _ (sym has.there ∙ ap (λ n. named n b.records) same ∙ ch.there) in
        record { name = name; place = after; there = ch.here; ticket_is = ap (λ (p : Record). p.ticket) (sym is) ∙ has.ticket_is }
    | inr apart ↦ record { name = has.name; place = has.place; there = ch.others has.name apart ∙ has.there; ticket_is = has.ticket_is }
  ]

  has_slot : (slot : ℕ) → HasSlot b slot → HasSlot b_2 slot
  has_slot slot has = elim (same_or_not has.name name) [
    | inl same ↦
        let is : has.place ≡ r = some_same _ _ (sym has.there ∙ ap (λ n. named n b.records) same ∙ ch.there) in
        record { name = name; place = after; there = ch.here; slot_is = ap (λ (p : Record). p.ticket.slot) (sym is) ∙ has.slot_is }
    | inr apart ↦ record { name = has.name; place = has.place; there = ch.others has.name apart ∙ has.there; slot_is = has.slot_is }
  ]

  pub keeps : IsKept b_2 waits_2
  keeps = record {
    places = λ q p is. elim (same_or_not q name) [
      | inl same ↦
          let place : after ≡ p = some_same _ _ (sym ch.here ∙ ap (λ n. named n b_2.records) (sym same) ∙ is) in
          subst (λ n. IsPlace b_2 waits_2 n p) (sym same) (subst (λ x. IsPlace b_2 waits_2 name x) place here_placed)
      | inr apart ↦ other_placed q p (sym (ch.others q apart) ∙ is) apart
    ];
    tickets = λ ticket k is. elim (cases_ticket ticket r.ticket) [
      | inl same ↦ record { name = name; place = after; there = ch.here; ticket_is = sym same }
      | inr apart ↦ has_ticket ticket (kept.tickets ticket k (sym (ch.put.others ticket apart) ∙ is))
    ];
    waiting = λ slot need is. elim (cases_eq slot r.ticket.slot) [
      | inl same ↦ record { name = name; place = after; there = ch.here; slot_is = sym same }
      | inr apart ↦ has_slot slot (kept.waiting slot need (sym (ch.need_others slot apart) ∙ is))
    ];
    tied = ch.tied;
  }

  pub lent_here : lent_at b_2 name ≡ lent
  lent_here = ap (option_and_then (λ (p : Record). lent_in b_2.table p.ticket)) ch.here ∙ ap (option_and_then (λ (k : Kept). k.lent)) ch.put.here

  pub lent_other : (q : Name) → ¬ (q ≡ name) → lent_at b_2 q ≡ lent_at b q
  lent_other q apart = on (named q b.records) refl
    where
      on : (found : Option Record) → named q b.records ≡ found → lent_at b_2 q ≡ lent_at b q
      on None none = ap (option_and_then (λ (p : Record). lent_in b_2.table p.ticket)) (ch.others q apart ∙ none) ∙ sym (ap (option_and_then (λ (p : Record). lent_in b.table p.ticket)) none)
      on (Some p) is =
          ap (option_and_then (λ (x : Record). lent_in b_2.table x.ticket)) (ch.others q apart ∙ is)
          ∙ ap (option_and_then (λ (k : Kept). k.lent)) (ch.put.others p.ticket (λ e. slot_apart q p is apart (ap (λ (t : Ticket). t.slot) e)))
          ∙ sym (ap (option_and_then (λ (x : Record). lent_in b.table x.ticket)) is)

  pub same_to : (claim : Ticket) → find b_2.table.claims claim ≡ find b.table.claims claim → lent_to b_2 claim ≡ lent_to b claim
  same_to claim e = ap (option_and_then (λ (t : Ticket). name_in b_2.names t.slot)) e ∙ ap (λ ns. option_and_then (λ (t : Ticket). name_in ns t.slot) (find b.table.claims claim)) ch.names

-- where it is lent no more
module _ (b b_2 : Board) (waits waits_2 : List (Option ℕ)) (name : Name) (r : Record) (piece : Option Piece)
    (kept : IsKept b waits) (ch : Changes b b_2 waits waits_2 name r piece None)
    (claims : IfSome (find b.table.pieces r.ticket) (λ (k : Kept). IsUnlentIn b.table.claims b_2.table.claims k.lent)) where
  abbrev was : IsPlace b waits name r
  was = kept.places name r ch.there

  gone_here : lent_at b_2 name ≡ None
  gone_here = lent_here b b_2 waits waits_2 name r piece None kept ch

  other_lent : (q : Name) → ¬ (q ≡ name) → lent_at b_2 q ≡ lent_at b q
  other_lent = lent_other b b_2 waits waits_2 name r piece None kept ch

  to_same : (claim : Ticket) → find b_2.table.claims claim ≡ find b.table.claims claim → lent_to b_2 claim ≡ lent_to b claim
  to_same = same_to b b_2 waits waits_2 name r piece None kept ch

  unlent_in : IsUnlentIn b.table.claims b_2.table.claims was.kept.lent
  unlent_in = subst (λ o. IfSome o (λ (k : Kept). IsUnlentIn b.table.claims b_2.table.claims k.lent)) was.there claims

  -- where it was not lent, the same is lent
  pub same_claims : was.kept.lent ≡ None → SameClaims b b_2
  same_claims free =
      let same : b_2.table.claims ≡ b.table.claims = subst (IsUnlentIn b.table.claims b_2.table.claims) free unlent_in in
      let free_here : lent_at b name ≡ None = ap (option_and_then (λ (p : Record). lent_in b.table p.ticket)) ch.there ∙ ap (option_and_then (λ (k : Kept). k.lent)) was.there ∙ free in
      record {
        lent = λ q. elim (same_or_not q name) [
          | inl is ↦ ap (lent_at b_2) is ∙ gone_here ∙ sym (ap (lent_at b) is ∙ free_here)
          | inr apart ↦ other_lent q apart
        ];
        to = λ claim. to_same claim (ap (λ p. find p claim) same);
        later = λ slot. omega (arith, ap (λ p. next_of p slot) same);
      }

  -- a claim that lends another piece lends it still
  kept_to : (claim : Ticket) → was.kept.lent ≢ Some claim → lent_to b claim ≡ but_for name (lent_to b claim)
  kept_to claim apart = on (lent_to b claim) refl
    where
      on : (found : Option Name) → lent_to b claim ≡ found → lent_to b claim ≡ but_for name found
      on None none = none
      on (Some q) is = by_name (same_name q name) refl
        where
          by_name : (t : Bool) → same_name q name ≡ t → lent_to b claim ≡ cond t None (Some q)
          by_name true same =
              let lent = lends b waits kept claim name r ch.there (is ∙ ap Some (same_name-equal q name same)) in
              absurd (apart (sym (ap (option_and_then (λ (k : Kept). k.lent)) was.there) ∙ lent))
          by_name false same = is

  to_after : (claim : Ticket) → lent_to b_2 claim ≡ but_for name (lent_to b claim)
  to_after claim = on was.kept.lent refl
    where
      on : (lent : Option Ticket) → was.kept.lent ≡ lent → lent_to b_2 claim ≡ but_for name (lent_to b claim)
      on None free =
          let same : b_2.table.claims ≡ b.table.claims = subst (IsUnlentIn b.table.claims b_2.table.claims) free unlent_in in
          to_same claim (ap (λ p. find p claim) same) ∙ kept_to claim (λ e. none_some was.kept.lent claim free e)
      on (Some held) is =
          let gone : IsPut b.table.claims b_2.table.claims held None = subst (IsUnlentIn b.table.claims b_2.table.claims) is unlent_in in
          elim (cases_ticket claim held) [
            | inl same ↦
                let found : find b.table.claims held ≡ Some r.ticket = kept.tied.lent r.ticket held was.kept was.there is in
                let named_so : lent_to b claim ≡ Some name = ap (lent_to b) same ∙ ap (option_and_then (λ (t : Ticket). name_in b.names t.slot)) found ∙ was.called in
                let void : lent_to b_2 claim ≡ None = ap (lent_to b_2) same ∙ ap (option_and_then (λ (t : Ticket). name_in b_2.names t.slot)) gone.here in
                void ∙ sym (ap (but_for name) named_so ∙ ap (λ t. cond t None (Some name)) (same_name-itself name))
            | inr apart ↦ to_same claim (gone.others claim apart) ∙ kept_to claim (λ e. apart (some_same _ _ (sym e ∙ is)))
          ]

  later : NoneAgain b b_2
  later slot = on was.kept.lent refl
    where
      on : (lent : Option Ticket) → was.kept.lent ≡ lent → next_of b.table.claims slot ≤ next_of b_2.table.claims slot
      on None free = let same : b_2.table.claims ≡ b.table.claims = subst (IsUnlentIn b.table.claims b_2.table.claims) free unlent_in in omega (arith, ap (λ p. next_of p slot) same)
      on (Some held) is = let gone : IsPut b.table.claims b_2.table.claims held None = subst (IsUnlentIn b.table.claims b_2.table.claims) is unlent_in in gone.later slot

  -- it is lent no more
  pub unlent : IsUnlent name b b_2
  unlent = record { here = gone_here; others = other_lent; to = to_after; later = later }
