-- Results that are given back.
use Rattle.std.proofs.Common.{◌≡◌, ◌∙◌, Bool, true, false, inl, inr, le_trans, refl, sym, ap, subst}
use Rattle.std.specs.Option.{option_and_then, option_map}
use Rattle.std.specs.Prelude.{◌⊎◌, ◌&&◌, None, Option, Some, if◌then◌else◌}
use Rattle.eval_step.specs.Evaluation.{Evaluation}
use Rattle.lent_pieces.specs.Back.{HasGiven, IsBack}
use Rattle.lent_pieces.proofs.Stale.{not-stale}
use Rattle.lent_pieces.specs.Claims.{IsAbandoned}
use Rattle.lent_pieces.specs.Giving.{HasHalted, IsOpenUnit, PieceGave}
use Rattle.lent_pieces.specs.Giving as piece_gave
use Rattle.lent_pieces.specs.Leading.{LiveGave}
use Rattle.lent_pieces.specs.Leading as live_gave
use Rattle.attempt_steps.specs.Tasks.{IsReadyTask, IsWanting}
use Rattle.serial_model.specs.declared.halt.Halt.{Halt}
use Rattle.shared_world.proofs.Few.{none-gone}
use Rattle.shared_world.proofs.Kept.{unclaimed-keeps}
use Rattle.shared_world.proofs.Live.{going, unfinished}
use Rattle.shared_world.proofs.Marks.{pieces-marks}
use Rattle.shared_world.specs.Counts.{age_of}
use Rattle.shared_world.specs.declared.given.Given.{Given}
use Rattle.shared_world.specs.Gave as gave
use Rattle.shared_world.specs.Gave.{Gave}
use Rattle.shared_world.specs.Returned.{IsLive, Returned, halt_of}
use Rattle.shared_world.specs.Shared.{Shared, claimed, is_going, ready, work_in}
use Rattle.shared_world.specs.Stands.{Stands}
use Rattle.piece_table.specs.Table.{is_free}
use Rattle.record_pool.proofs.Finds.{cases_ticket}
use Rattle.unit_table.specs.Board.{AreTied, is_ready, lent_at, lent_to, marks_ready, piece_at}
use Rattle.unit_table.specs.declared.mark.Mark.{Mark}
use Rattle.unit_table.specs.declared.mark.Mark.TheVariants as mark
use Rattle.unit_table.specs.declared.mark.Work.{Work}
use Rattle.unit_table.specs.declared.mark.Work.TheVariants as work
use Rattle.unit_table.specs.declared.piece.Piece.{Piece}
use Rattle.unit_table.specs.Piece.{mark_in, says_ready}
use Rattle.value_core.specs.declared.ticket.Ticket.{Ticket}
use Rattle.value_core.specs.Named.{Name}
use Rattle.world_claim.specs.Run.{AsksWhereHalted, IsRunOf, halts_of}

-- what was evaluated halted there
pub halted-so : (r : Returned) → IsRunOf r → HasHalted r.program r.machine r.halts
halted-so r is = on r.work r.machine r.halts is.halts is.asks
  where
    on : (w : Work) (m : Option Evaluation) (h : Option Halt) → h ≡ halts_of w r.program m → AsksWhereHalted m h → HasHalted r.program m h
    on w None None e asks = tt
    on w None (Some h) e asks = tt
    on w (Some m) None e asks = tt
    on work.Eval (Some m) (Some h) e asks = record { halts_so = (let same : h ≡ halt_of r.program m = cc in same); asks = asks }
    on work.Settle (Some m) (Some h) e asks = cc
    on work.Begin (Some m) (Some h) e asks = cc

-- a piece that is lent for something is marked ready
lent-ready : (found : Option Piece) (w : Work) → option_and_then work_in (option_map mark_in found) ≡ Some w → marks_ready found ≡ true
lent-ready None w is = cc
lent-ready (Some p) w is = on (mark_in p) is
  where
    on : (m : Mark) → work_in m ≡ Some w → says_ready m ≡ true
    on (mark.Ready k) e = refl
    on (mark.Waiting k) e = cc
    on mark.Resting e = cc
    on (mark.Finished v) e = cc
    on mark.Dropped e = cc

-- the claim of what is live is out
pub claim-out : (s : Shared) (ticket : Ticket) (name : Name) → claimed s ticket ≡ Some name → lent_to s.board ticket ≡ Some name
claim-out s ticket name is = on (is_going s.end) is
  where
    on : (c : Bool) → (if c then lent_to s.board ticket else None) ≡ Some name → lent_to s.board ticket ≡ Some name
    on true e = e
    on false e = cc

-- memory was wanting, and the claim was ended
module _ (old mid new : Shared) (r : Returned) (name : Name) (live : IsLive old r name) (tied : AreTied old.board) (tied_now : AreTied new.board) (wants : IsWanting old name mid) (left : IsAbandoned r.ticket mid new) where
  same_end : mid.end ≡ old.end
  same_end = ap (λ (s : Shared). s.end) wants.rest

  same-claimed : (t : Ticket) → (lent_to old.board t ≡ Some name → ⊥) → claimed mid t ≡ claimed old t
  same-claimed t free = ap (λ e. if is_going e then lent_to mid.board t else None) same_end ∙ ap (λ f. if is_going old.end then f else None) (wants.claims t free)

  -- another claim lends another piece
  other-free : (other : Ticket) → (other ≡ r.ticket → ⊥) → lent_to old.board other ≡ Some name → ⊥
  other-free other ne lent =
      let here = tied.lends r.ticket name (claim-out old r.ticket name live.claim) in
      let there = tied.lends other name lent in
      ne (let same : Some other ≡ Some r.ticket = sym there ∙ here in cc)

  marked : marks_ready (piece_at mid.board name) ≡ true
  marked = on (piece_at mid.board name) wants.here
    where
      on : (found : Option Piece) → (found ≡ piece_at old.board name) ⊎ IsReadyTask found → marks_ready found ≡ true
      on found (inl same) = ap marks_ready same ∙ lent-ready (piece_at old.board name) r.work live.current.work
      on found (inr ready) = ap marks_ready ready.is

  -- no claim is on it any more
  none-lends : (t : Ticket) → lent_to new.board t ≡ Some name → ⊥
  none-lends t lent = on (cases_ticket t r.ticket)
    where
      new_going : is_going new.end ≡ true
      new_going = ap (λ (s : Shared). is_going s.end) left.unclaimed.rest ∙ ap is_going (same_end ∙ going old r name live)

      out : claimed new t ≡ Some name
      out = ap (λ c. if c then lent_to new.board t else None) new_going ∙ lent

      on : (t ≡ r.ticket) ⊎ (t ≡ r.ticket → ⊥) → ⊥
      on (inl same) = let no : None ≡ Some name = sym left.unclaimed.here ∙ ap (claimed new) (sym same) ∙ out in cc
      on (inr ne) =
          let on_mid : claimed mid t ≡ Some name = sym (left.unclaimed.others t ne) ∙ out in
          let on_old : lent_to old.board t ≡ Some name = sym (wants.claims t (other-free t ne)) ∙ claim-out mid t name on_mid in
          other-free t ne on_old

  again : ready new name ≡ true
  again =
      ap (λ c. c && is_ready new.board name) (ap (λ (s : Shared). is_going s.end) left.unclaimed.rest ∙ ap is_going (same_end ∙ going old r name live))
      ∙ ap (λ c. c && is_free (lent_at new.board name)) (ap marks_ready (left.unclaimed.pieces name) ∙ marked) ∙ free (lent_at new.board name) refl
    where
      free : (found : Option Ticket) → lent_at new.board name ≡ found → is_free found ≡ true
      free None is = refl
      free (Some t) is = absurd (none-lends t (tied_now.lent t name is))

  -- it was out until then, or had ended with the mark
  pub back-so : IsBack old r new
  back-so = record {
    stands = unclaimed-keeps r.ticket mid new wants.stands left.unclaimed;
    marks = λ marks. pieces-marks mid new left.unclaimed.pieces left.unclaimed.rest (wants.marks marks);
    here = left.unclaimed.here;
    others = λ other ne. left.unclaimed.others other ne ∙ same-claimed other (other-free other ne);
    ready_again = λ q live_q. subst (λ n. ready new n ≡ true) (one-name q live_q) again;
    pieces = λ q not_live. left.unclaimed.pieces q ∙ wants.others q (λ same. not_live (subst (IsLive old r) (sym same) live));
    ages = λ u. ap (λ (s : Shared). age_of s u) left.unclaimed.rest ∙ wants.ages u;
    no_fewer = le_trans wants.no_fewer (none-gone mid new (ap (λ (s : Shared). s.attempts) left.unclaimed.rest));
    rest = left.unclaimed.rest ∙ ap (λ (s : Shared). record s { board = new.board }) wants.rest
        ∙ ap (λ a. record old { attempts = a; board = new.board }) (sym (ap (λ (s : Shared). s.attempts) left.unclaimed.rest));
  }
    where
      one-name : (q : Name) → IsLive old r q → name ≡ q
      one-name q live_q = let both : Some name ≡ Some q = sym live.claim ∙ live_q.claim in cc

-- memory was wanting before anything was done
pub back-plain : (old new : Shared) (r : Returned) → Stands old → IsAbandoned r.ticket old new → IsBack old r new
back-plain old new r st left = record {
  stands = unclaimed-keeps r.ticket old new st left.unclaimed;
  marks = pieces-marks old new left.unclaimed.pieces left.unclaimed.rest;
  here = left.unclaimed.here;
  others = λ other ne. left.unclaimed.others other ne;
  ready_again = λ q live. left.again q live.claim;
  pieces = λ q not_live. left.unclaimed.pieces q;
  ages = λ u. ap (λ (s : Shared). age_of s u) left.unclaimed.rest;
  no_fewer = none-gone old new (ap (λ (s : Shared). s.attempts) left.unclaimed.rest);
  rest = left.unclaimed.rest ∙ ap (λ a. record old { attempts = a; board = new.board }) (sym (ap (λ (s : Shared). s.attempts) left.unclaimed.rest));
}

-- what the piece came to
pub live-gave : (old new : Shared) (r : Returned) (name : Name) (found : Given) → IsLive old r name → LiveGave old name r.work found new → HasGiven old r new found
live-gave old new r name found is gives = record { gave = of gives; stale = λ stale. absurd (not-stale old new name r.work found gives stale) }
  where
    on : PieceGave old name found new → Gave old r found new
    on (piece_gave.unit g) = gave.unit name is g
    on (piece_gave.task g) = gave.task name is g
    on (piece_gave.actor g) = gave.actor name is g

    of : LiveGave old name r.work found new → Gave old r found new
    of (live_gave.piece g) = on g
    of (live_gave.lead g) = gave.lead name is g
    of (live_gave.tentative g) = gave.tentative name is g

-- a unit that is claimed is not finished
pub live-unfinished : (old : Shared) (r : Returned) (name : Name) → IsLive old r name → IsOpenUnit old.board name
live-unfinished old r name live x there = unfinished old r name x live there
