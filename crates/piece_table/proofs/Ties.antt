-- Each claim lends a piece that says so, and each piece that is lent has its claim, after each change.
use Rattle.std.proofs.Common.{◌≡◌, ◌+◌, ◌&&◌, Bool, true, false, true≢false, Option, Some, None, refl, sym, ap, subst, ◌∙◌, inl, inr}
use Rattle.std.specs.Prelude.{OnSome}
use Rattle.std.specs.Option.{IfSome}
use Rattle.value_core.specs.declared.ticket.Ticket.{Ticket}
use Rattle.record_pool.specs.Pool.{Pool, find, Puts}
use Rattle.piece_table.specs.declared.piece.Piece.{Piece}
use Rattle.record_pool.specs.Tickets.{IsPut}
use Rattle.piece_table.specs.Table.{AreTied, IsTakenBack, has_free, is_free}
use Rattle.record_pool.proofs.Finds.{cases_ticket, removed_put, same_in_some}

some_not_none : {A P : Type 0} (o : Option A) (x : A) → o ≡ Some x → o ≡ None → P
some_not_none o x is none = absurd (cc)

-- a piece that can be lent is not lent
pub not_lent : (x : Piece) → has_free (Some x) ≡ true → x.lent ≡ None
not_lent x free = on x.is_ready x.lent free
  where
    on : (b : Bool) (o : Option Ticket) → (b && is_free o) ≡ true → o ≡ None
    on true None so = refl
    on true (Some claim) so = absurd (true≢false (sym so))
    on false o so = absurd (true≢false (sym so))

-- the piece that is put is not lent
pub free_as : (v : Piece) → v.lent ≡ None → (p : Piece) → Some v ≡ Some p → p.lent ≡ None
free_as v free p is = ap (λ q. q.lent) (sym (same_in_some v p is)) ∙ free

-- where nothing is put, nothing is lent
pub free_none : (p : Piece) → None ≡ Some p → p.lent ≡ None
free_none p is = absurd (cc)

-- the claim is taken out
pub claim_removed : (claims claims_2 : Pool Ticket) (claim t : Ticket) (result : Option Ticket) → result ≡ find claims claim → find claims claim ≡ Some t
    → OnSome result (Puts claims claims_2 claim.slot (None, claim.generation + 1)) → IsPut claims claims_2 claim None
claim_removed claims claims_2 claim t result value found taken =
    removed_put claims claims_2 claim t (subst (λ o. OnSome o (Puts claims claims_2 claim.slot (None, claim.generation + 1))) (value ∙ found) taken) found

module _ (pieces pieces_2 : Pool Piece) (claims claims_2 : Pool Ticket) (tied : AreTied pieces claims) where
  -- none is there now, or a piece that is not lent, where none was, or one that was not lent either; the claims stay
  pub tied_put : (t : Ticket) (now : Option Piece) → IsPut pieces pieces_2 t now → ((v : Piece) → now ≡ Some v → v.lent ≡ None) → ((x : Piece) → find pieces t ≡ Some x → x.lent ≡ None)
      → ((claim : Ticket) → find claims_2 claim ≡ find claims claim) → AreTied pieces_2 claims_2
  tied_put t now put free was same = record {
    lends = λ claim piece is. let before = tied.lends claim piece (sym (same claim) ∙ is) in elim (cases_ticket piece t) [
      | inl it ↦ some_not_none before.0.lent claim before.2 (was before.0 (ap (find pieces) (sym it) ∙ before.1))
      | inr other ↦ (before.0, put.others piece other ∙ before.1, before.2)
    ];
    lent = λ piece claim p is lent. elim (cases_ticket piece t) [
      | inl it ↦ some_not_none p.lent claim lent (free p (sym put.here ∙ ap (find pieces_2) (sym it) ∙ is))
      | inr other ↦ same claim ∙ tied.lent piece claim p (sym (put.others piece other) ∙ is) lent
    ];
  }

  -- the same where the claim that lent the piece before is live no more
  pub tied_unlent : (t claim : Ticket) (x : Piece) (now : Option Piece) → find pieces t ≡ Some x → x.lent ≡ Some claim → IsPut pieces pieces_2 t now → ((v : Piece) → now ≡ Some v → v.lent ≡ None) → IsPut claims claims_2 claim None → AreTied pieces_2 claims_2
  tied_unlent t claim x now found lent put free gone = record {
    lends = λ c piece is. elim (cases_ticket c claim) [
      | inl it ↦ some_not_none (find claims_2 c) piece is (ap (find claims_2) it ∙ gone.here)
      | inr differs ↦ let before = tied.lends c piece (sym (gone.others c differs) ∙ is) in elim (cases_ticket piece t) [
        | inl it ↦ let same_piece : before.0 ≡ x = same_in_some before.0 x (sym before.1 ∙ ap (find pieces) it ∙ found) in
            absurd (differs (same_in_some c claim (sym before.2 ∙ ap (λ q. q.lent) same_piece ∙ lent)))
        | inr other ↦ (before.0, put.others piece other ∙ before.1, before.2)
      ]
    ];
    lent = λ piece c p is says. elim (cases_ticket piece t) [
      | inl it ↦ some_not_none p.lent c says (free p (sym put.here ∙ ap (find pieces_2) (sym it) ∙ is))
      | inr other ↦ let before = tied.lent piece c p (sym (put.others piece other) ∙ is) says in elim (cases_ticket c claim) [
        | inl it ↦ absurd (other (same_in_some piece t (sym before ∙ ap (find claims) it ∙ tied.lent t claim x found lent)))
        | inr differs ↦ gone.others c differs ∙ before
      ]
    ];
  }

  -- a piece that was not lent is lent under a new claim
  pub tied_lent : (t claim : Ticket) (x v : Piece) → find pieces t ≡ Some x → x.lent ≡ None → IsPut pieces pieces_2 t (Some v) → v.lent ≡ Some claim → find claims claim ≡ None → IsPut claims claims_2 claim (Some t)
      → AreTied pieces_2 claims_2
  tied_lent t claim x v found free put lent vacant claimed = record {
    lends = λ c piece is. elim (cases_ticket c claim) [
      | inl it ↦ let same_piece : t ≡ piece = same_in_some t piece (sym claimed.here ∙ ap (find claims_2) (sym it) ∙ is) in
          (v, ap (find pieces_2) (sym same_piece) ∙ put.here, lent ∙ ap Some (sym it))
      | inr differs ↦ let before = tied.lends c piece (sym (claimed.others c differs) ∙ is) in elim (cases_ticket piece t) [
        | inl it ↦ let same_piece : before.0 ≡ x = same_in_some before.0 x (sym before.1 ∙ ap (find pieces) it ∙ found) in
            some_not_none before.0.lent c before.2 (ap (λ q. q.lent) same_piece ∙ free)
        | inr other ↦ (before.0, put.others piece other ∙ before.1, before.2)
      ]
    ];
    lent = λ piece c p is says. elim (cases_ticket piece t) [
      | inl it ↦ let same_piece : p ≡ v = same_in_some p v (sym is ∙ ap (find pieces_2) it ∙ put.here) in
          let same_claim : c ≡ claim = same_in_some c claim (sym says ∙ ap (λ q. q.lent) same_piece ∙ lent) in
          ap (find claims_2) same_claim ∙ claimed.here ∙ ap Some (sym it)
      | inr other ↦ let before = tied.lent piece c p (sym (put.others piece other) ∙ is) says in elim (cases_ticket c claim) [
        | inl it ↦ some_not_none (find claims c) piece before (ap (find claims) it ∙ vacant)
        | inr differs ↦ claimed.others c differs ∙ before
      ]
    ];
  }

  -- the claim of a piece is taken back
  pub tied_taken_back : (t claim : Ticket) → find claims claim ≡ Some t → IsTakenBack pieces pieces_2 t → IsPut claims claims_2 claim None → AreTied pieces_2 claims_2
  tied_taken_back t claim found taken gone =
      let before = tied.lends claim t found in
      let put : IsPut pieces pieces_2 t (Some (record before.0 { lent = None })) = subst (λ o. IfSome o (λ p. IsPut pieces pieces_2 t (Some (record p { lent = None })))) before.1 taken in
      tied_unlent t claim before.0 (Some (record before.0 { lent = None })) before.1 before.2 put (free_as (record before.0 { lent = None }) refl) gone
