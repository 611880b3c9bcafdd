-- What is ready, what is lent and taken back.
use Rattle.std.proofs.Common.{◌≡◌, ◌&&◌, ◌∙◌, ℕ, Bool, List, Option, Some, None, Result, Ok, Err, true, false, refl, sym, ap, subst, arith, true≢false}
use Rattle.std.specs.Prelude.{IfOk, OnErr}
use Rattle.std.specs.declared.alloc.AllocError.{AllocError}
use Rattle.std.specs.Option.{IfSome, option_and_then, option_map}
use Rattle.piece_table.specs.Table.{AreTied as AreTiedIn, CanLend, IsTakenBack, IsUnlent as IsUnlentIn, Table, has_free, is_free}
use Rattle.record_pool.specs.Tickets.{HasMoreRoom, IsGiven, IsPut}
use Rattle.piece_table.specs.declared.piece.Piece.{Piece as Kept}
use Rattle.record_pool.proofs.Finds.{same_finds}
use Rattle.record_pool.specs.Pool.{find, next_of}
use Rattle.unit_table.specs.Board.{AreTied, Board, IsLent, IsUnlent, SameClaims, is_ready, lent_at, lent_in, lent_to, marks_ready, name_in, piece_at}
use Rattle.unit_table.specs.Keeping.{HasTicket, IsKept, IsPlace, ticket_at}
use Rattle.unit_table.specs.declared.record.Record.{Record}
use Rattle.unit_table.proofs.Changes as changes
use Rattle.unit_table.proofs.Changes.{Changes}
use Rattle.unit_table.proofs.Sames as sames
use Rattle.unit_table.proofs.Sames.{Same}
use Rattle.value_core.specs.Named.{Name, named}
use Rattle.value_core.specs.declared.ticket.Ticket.{Ticket}

some_same : {X : Type 0} (x y : X) → Some x ≡ Some y → x ≡ y
some_same x y e = cc

none_some : {X P : Type 0} (o : Option X) (x : X) → o ≡ None → o ≡ Some x → P
none_some o x none some = absurd (cc)

-- the place of a ticket that is known
pub place_of : (b : Board) (name : Name) (ticket : Ticket) → ticket_at b.records name ≡ Some ticket → (r : Record) × (named name b.records ≡ Some r) × (r.ticket ≡ ticket)
place_of b name ticket is = on (named name b.records) refl
  where
    on : (found : Option Record) → named name b.records ≡ found → (r : Record) × (named name b.records ≡ Some r) × (r.ticket ≡ ticket)
    on None none = none_some (ticket_at b.records name) ticket (ap (option_map (λ (p : Record). p.ticket)) none) is
    on (Some r) there = (r, there, some_same _ _ (sym (ap (option_map (λ (p : Record). p.ticket)) there) ∙ is))

module _ (b : Board) (waits : List (Option ℕ)) (kept : IsKept b waits) where
  -- what stands in a place is ready where the table says that it can be lent
  pub ready_is : (name : Name) (r : Record) → named name b.records ≡ Some r → is_ready b name ≡ has_free (find b.table.pieces r.ticket)
  ready_is name r there =
      let place = kept.places name r there in
      let stands : piece_at b name ≡ r.piece = ap (option_and_then (λ (p : Record). p.piece)) there in
      let lent : lent_at b name ≡ place.kept.lent = ap (option_and_then (λ (p : Record). lent_in b.table p.ticket)) there ∙ ap (option_and_then (λ (k : Kept). k.lent)) place.there in
      ap (λ p. marks_ready p && is_free (lent_at b name)) stands ∙ ap (λ o. marks_ready r.piece && is_free o) lent ∙ ap (λ t. t && is_free place.kept.lent) (sym place.ready) ∙ sym (ap has_free place.there)

  pub not_ready : (name : Name) → named name b.records ≡ None → is_ready b name ≡ false
  not_ready name absent = ap (λ o. marks_ready o && is_free (lent_at b name)) (ap (option_and_then (λ (p : Record). p.piece)) absent)

  -- by its ticket
  pub ready_at : (name : Name) (ticket : Ticket) → ticket_at b.records name ≡ Some ticket → is_ready b name ≡ has_free (find b.table.pieces ticket)
  ready_at name ticket is = let place = place_of b name ticket is in ready_is name place.0 place.1 ∙ ap (λ t. has_free (find b.table.pieces t)) place.2

  pub absent_at : (name : Name) → ticket_at b.records name ≡ None → is_ready b name ≡ false
  absent_at name none = on (named name b.records) refl
    where
      on : (found : Option Record) → named name b.records ≡ found → is_ready b name ≡ false
      on None absent = not_ready name absent
      on (Some r) there = none_some (ticket_at b.records name) r.ticket none (ap (option_map (λ (p : Record). p.ticket)) there)

  -- a piece of the table that can be lent is ready by its name
  pub first_is : (ticket : Ticket) → CanLend b.table ticket → (name : Name) × (name_in b.names ticket.slot ≡ Some name) × (is_ready b name ≡ true)
  first_is ticket free = on (find b.table.pieces ticket) refl
    where
      on : (found : Option Kept) → find b.table.pieces ticket ≡ found → (name : Name) × (name_in b.names ticket.slot ≡ Some name) × (is_ready b name ≡ true)
      on None none = absurd (true≢false (sym free ∙ ap has_free none))
      on (Some k) is =
          let has = kept.tickets ticket k is in
          let place = kept.places has.name has.place has.there in (
            has.name,
            ap (λ (t : Ticket). name_in b.names t.slot) (sym has.ticket_is) ∙ place.called,
            ready_is has.name has.place has.there ∙ ap (λ t. has_free (find b.table.pieces t)) has.ticket_is ∙ free,
          )

  -- where none can be lent, nothing is ready
  pub none_is : ((ticket : Ticket) → has_free (find b.table.pieces ticket) ≡ false) → (name : Name) → is_ready b name ≡ false
  none_is none name = on (named name b.records) refl
    where
      on : (found : Option Record) → named name b.records ≡ found → is_ready b name ≡ false
      on None absent = not_ready name absent
      on (Some r) there = ready_is name r there ∙ none r.ticket

  -- what a claim lends has a place
  pub lent_place : (claim ticket : Ticket) → find b.table.claims claim ≡ Some ticket → HasTicket b ticket
  lent_place claim ticket found = let tie = kept.tied.lends claim ticket found in kept.tickets ticket tie.0 tie.1

  pub lent_named : (claim ticket : Ticket) (found : find b.table.claims claim ≡ Some ticket) → lent_to b claim ≡ Some (lent_place claim ticket found).name
  lent_named claim ticket found =
      let has = lent_place claim ticket found in
      ap (option_and_then (λ (t : Ticket). name_in b.names t.slot)) found ∙ ap (λ (t : Ticket). name_in b.names t.slot) (sym has.ticket_is) ∙ (kept.places has.name has.place has.there).called

  pub not_lent : (claim : Ticket) → find b.table.claims claim ≡ None → lent_to b claim ≡ None
  not_lent claim none = ap (option_and_then (λ (t : Ticket). name_in b.names t.slot)) none

  -- claims are tied by name as they are by ticket
  pub tied_by_name : AreTied b
  tied_by_name = record {
    lends = λ claim name to. by_to claim name to (find b.table.claims claim) refl;
    lent = λ claim name is. by_lent claim name is (named name b.records) refl;
  }
    where
      by_to : (claim : Ticket) (name : Name) → lent_to b claim ≡ Some name → (found : Option Ticket) → find b.table.claims claim ≡ found → lent_at b name ≡ Some claim
      by_to claim name to None none = none_some (lent_to b claim) name (ap (option_and_then (λ (t : Ticket). name_in b.names t.slot)) none) to
      by_to claim name to (Some t) found =
          let tie = kept.tied.lends claim t found in
          let has = kept.tickets t tie.0 tie.1 in
          let place = kept.places has.name has.place has.there in
          let named_so : name_in b.names t.slot ≡ Some name = sym (ap (option_and_then (λ (u : Ticket). name_in b.names u.slot)) found) ∙ to in
          let same : has.name ≡ name = some_same _ _ (sym place.called ∙ ap (λ (u : Ticket). name_in b.names u.slot) has.ticket_is ∙ named_so) in
          let there : named name b.records ≡ Some has.place = ap (λ n. named n b.records) (sym same) ∙ has.there in
          ap (option_and_then (λ (p : Record). lent_in b.table p.ticket)) there ∙ changes.lends b waits kept claim name has.place there to

      by_lent : (claim : Ticket) (name : Name) → lent_at b name ≡ Some claim → (found : Option Record) → named name b.records ≡ found → lent_to b claim ≡ Some name
      by_lent claim name is None absent = none_some (lent_at b name) claim (ap (option_and_then (λ (p : Record). lent_in b.table p.ticket)) absent) is
      by_lent claim name is (Some r) there =
          let place = kept.places name r there in
          let lent : place.kept.lent ≡ Some claim = sym (ap (option_and_then (λ (k : Kept). k.lent)) place.there) ∙ sym (ap (option_and_then (λ (p : Record). lent_in b.table p.ticket)) there) ∙ is in
          ap (option_and_then (λ (t : Ticket). name_in b.names t.slot)) (kept.tied.lent r.ticket claim place.kept place.there lent) ∙ place.called

  -- what is lent can be done something with
  pub lent_are_ready : (claim : Ticket) (name : Name) → lent_to b claim ≡ Some name → marks_ready (piece_at b name) ≡ true
  lent_are_ready claim name to = on (named name b.records) refl
    where
      lent : lent_at b name ≡ Some claim
      lent = tied_by_name.lends claim name to

      on_place : (r : Record) → named name b.records ≡ Some r → (t : Bool) → marks_ready r.piece ≡ t → t ≡ true
      on_place r there true is = refl
      on_place r there false is =
          let place = kept.places name r there in
          let free : lent_at b name ≡ None = ap (option_and_then (λ (p : Record). lent_in b.table p.ticket)) there ∙ ap (option_and_then (λ (k : Kept). k.lent)) place.there ∙ place.idle (place.ready ∙ is) in
          none_some (lent_at b name) claim free lent

      on : (found : Option Record) → named name b.records ≡ found → marks_ready (piece_at b name) ≡ true
      on None absent = none_some (lent_at b name) claim (ap (option_and_then (λ (p : Record). lent_in b.table p.ticket)) absent) lent
      on (Some r) there = ap marks_ready (ap (option_and_then (λ (p : Record). p.piece)) there) ∙ on_place r there (marks_ready r.piece) refl

-- the same places over another table
abbrev pub with_table : Board → Table → Board
with_table b table = record b { table = table }

module _ (b : Board) (table : Table) (waits : List (Option ℕ)) (kept : IsKept b waits) (tied : AreTiedIn table.pieces table.claims) where
  -- a piece that keeps its mark is lent so
  relends : (name : Name) (r : Record) (lent : Option Ticket) → named name b.records ≡ Some r
      → IsPut b.table.pieces table.pieces r.ticket (Some (record { is_ready = marks_ready r.piece; lent = lent })) → (marks_ready r.piece ≡ false → lent ≡ None)
      → Changes b (with_table b table) waits waits name r r.piece lent
  relends name r lent there put idle = record {
    there = there;
    here = there;
    others = λ q apart. refl;
    names = refl;
    put = put;
    idle = idle;
    tied = tied;
    need_here = (kept.places name r there).need;
    need_others = λ slot apart. refl;
    room = omega (arith);
    can_wait = (kept.places name r there).awaited;
  }

  -- what is lent once
  module _ (name : Name) (r : Record) (claim : Ticket) (there : named name b.records ≡ Some r) (free : is_ready b name ≡ true)
      (put : IsPut b.table.pieces table.pieces r.ticket (Some (record { is_ready = true; lent = Some claim })))
      (given : IsGiven b.table.claims table.claims claim r.ticket) where
    marked : marks_ready r.piece ≡ true
    marked = on (marks_ready r.piece) refl
      where
        stands : piece_at b name ≡ r.piece
        stands = ap (option_and_then (λ (p : Record). p.piece)) there

        on : (t : Bool) → marks_ready r.piece ≡ t → t ≡ true
        on true is = refl
        on false is = absurd (true≢false (sym free ∙ ap (λ o. marks_ready o && is_free (lent_at b name)) stands ∙ ap (λ t. t && is_free (lent_at b name)) is))

    lends_it : Changes b (with_table b table) waits waits name r r.piece (Some claim)
    lends_it = relends name r (Some claim) there (subst (λ t. IsPut b.table.pieces table.pieces r.ticket (Some (record { is_ready = t; lent = Some claim }))) (sym marked) put)
        (λ no. absurd (true≢false (sym marked ∙ no)))

    pub lent_keeps : IsKept (with_table b table) waits
    lent_keeps = changes.keeps b (with_table b table) waits waits name r r.piece (Some claim) kept lends_it

    pub lent_once : IsLent name claim b (with_table b table)
    lent_once = record {
      here = changes.lent_here b (with_table b table) waits waits name r r.piece (Some claim) kept lends_it;
      others = changes.lent_other b (with_table b table) waits waits name r r.piece (Some claim) kept lends_it;
      to = ap (option_and_then (λ (t : Ticket). name_in b.names t.slot)) given.put.here ∙ (kept.places name r there).called;
      to_others = λ other apart. changes.same_to b (with_table b table) waits waits name r r.piece (Some claim) kept lends_it other (given.put.others other apart);
      fresh = given.fresh;
      later = given.put.later;
    }

  -- what is taken back
  module _ (claim ticket : Ticket) (found : find b.table.claims claim ≡ Some ticket)
      (back : IsTakenBack b.table.pieces table.pieces ticket) (gone : IsPut b.table.claims table.claims claim None) where
    abbrev has : HasTicket b ticket
    has = lent_place b waits kept claim ticket found

    abbrev place : IsPlace b waits has.name has.place
    place = kept.places has.name has.place has.there

    held : find b.table.claims claim ≡ Some has.place.ticket
    held = found ∙ ap Some (sym has.ticket_is)

    back_here : IsTakenBack b.table.pieces table.pieces has.place.ticket
    back_here = subst (IsTakenBack b.table.pieces table.pieces) (sym has.ticket_is) back

    put : IsPut b.table.pieces table.pieces has.place.ticket (Some (record { is_ready = marks_ready has.place.piece; lent = None }))
    put = subst (λ t. IsPut b.table.pieces table.pieces has.place.ticket (Some (record { is_ready = t; lent = None }))) place.ready
        (subst (λ o. IfSome o (λ k. IsPut b.table.pieces table.pieces has.place.ticket (Some (record k { lent = None })))) place.there back_here)

    frees_it : Changes b (with_table b table) waits waits has.name has.place has.place.piece None
    frees_it = relends has.name has.place None has.there put (λ _. refl)

    says_claim : place.kept.lent ≡ Some claim
    says_claim =
        let tie = kept.tied.lends claim has.place.ticket held in
        let same : tie.0 ≡ place.kept = some_same _ _ (sym tie.1 ∙ place.there) in
        ap (λ (k : Kept). k.lent) (sym same) ∙ tie.2

    pub back_keeps : IsKept (with_table b table) waits
    back_keeps = changes.keeps b (with_table b table) waits waits has.name has.place has.place.piece None kept frees_it

    pub back_unlent : IfSome (lent_to b claim) (λ name. IsUnlent name b (with_table b table))
    back_unlent = subst (λ o. IfSome o (λ name. IsUnlent name b (with_table b table))) (sym (lent_named b waits kept claim ticket found))
        (changes.unlent b (with_table b table) waits waits has.name has.place has.place.piece kept frees_it
        (subst (λ o. IfSome o (λ (k : Kept). IsUnlentIn b.table.claims table.claims k.lent)) (sym place.there) (subst (IsUnlentIn b.table.claims table.claims) (sym says_claim) gone)))

  -- more room for claims
  pub roomier : table.pieces ≡ b.table.pieces → HasMoreRoom b.table.claims table.claims → Same b (with_table b table) waits waits
  roomier pieces more = record {
    records = refl;
    pieces = λ t. ap (λ p. find p t) pieces;
    claims = λ t. same_finds b.table.claims table.claims more t;
    later = λ slot. omega (arith, ap (λ p. next_of p slot) more);
    names = λ t k is. refl;
    need = λ slot. refl;
    room = omega (arith);
    tied = tied;
  }

  pub roomier_keeps : table.pieces ≡ b.table.pieces → HasMoreRoom b.table.claims table.claims → IsKept (with_table b table) waits
  roomier_keeps pieces more = sames.same_keeps b (with_table b table) waits waits kept (roomier pieces more)

  pub roomier_claims : table.pieces ≡ b.table.pieces → HasMoreRoom b.table.claims table.claims → SameClaims b (with_table b table)
  roomier_claims pieces more = sames.same_claims b (with_table b table) waits waits kept (roomier pieces more)

  -- what comes of lending, whether memory is found or not
  module _ (name : Name) (ticket : Ticket) (is : ticket_at b.records name ≡ Some ticket) (free : is_ready b name ≡ true)
      (result : Result Ticket AllocError)
      (put : IfOk result (λ claim. IsPut b.table.pieces table.pieces ticket (Some (record { is_ready = true; lent = Some claim }))))
      (given : IfOk result (λ claim. IsGiven b.table.claims table.claims claim ticket))
      (pieces : OnErr result (table.pieces ≡ b.table.pieces)) (more : OnErr result (HasMoreRoom b.table.claims table.claims)) where
    pub lending_keeps : IsKept (with_table b table) waits
    lending_keeps = on result put given pieces more
      where
        on : (r : Result Ticket AllocError) → IfOk r (λ claim. IsPut b.table.pieces table.pieces ticket (Some (record { is_ready = true; lent = Some claim })))
            → IfOk r (λ claim. IsGiven b.table.claims table.claims claim ticket) → OnErr r (table.pieces ≡ b.table.pieces) → OnErr r (HasMoreRoom b.table.claims table.claims) → IsKept (with_table b table) waits
        on (Ok claim) puts gives same room =
            let at = place_of b name ticket is in
            lent_keeps name at.0 claim at.1 free (subst (λ t. IsPut b.table.pieces table.pieces t (Some (record { is_ready = true; lent = Some claim }))) (sym at.2) puts)
            (subst (IsGiven b.table.claims table.claims claim) (sym at.2) gives)
        on (Err e) puts gives same room = roomier_keeps same room

    pub lending_lends : IfOk result (λ claim. IsLent name claim b (with_table b table))
    lending_lends = on result put given
      where
        on : (r : Result Ticket AllocError) → IfOk r (λ claim. IsPut b.table.pieces table.pieces ticket (Some (record { is_ready = true; lent = Some claim })))
            → IfOk r (λ claim. IsGiven b.table.claims table.claims claim ticket) → IfOk r (λ claim. IsLent name claim b (with_table b table))
        on (Ok claim) puts gives =
            let at = place_of b name ticket is in
            lent_once name at.0 claim at.1 free (subst (λ t. IsPut b.table.pieces table.pieces t (Some (record { is_ready = true; lent = Some claim }))) (sym at.2) puts)
            (subst (IsGiven b.table.claims table.claims claim) (sym at.2) gives)
        on (Err e) puts gives = tt

    pub lending_same : OnErr result (SameClaims b (with_table b table))
    lending_same = on result pieces more
      where
        on : (r : Result Ticket AllocError) → OnErr r (table.pieces ≡ b.table.pieces) → OnErr r (HasMoreRoom b.table.claims table.claims) → OnErr r (SameClaims b (with_table b table))
        on (Ok claim) same room = tt
        on (Err e) same room = roomier_claims same room
