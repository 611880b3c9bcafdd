-- Nothing is ready in a run that goes on only where a claim is out.
use Rattle.std.proofs.Common.{◌≡◌, ◌∙◌, Bool, false, refl, sym, true, ap}
use Rattle.std.specs.Prelude.{◌&&◌, None, Option, Some, if◌then◌else◌}
use Rattle.interleave_core.specs.Idle.{IsClaimOut}
use Rattle.run_end.proofs.Finished.{over-set, rest-is-over}
use Rattle.run_end.specs.Over.{IsIdle}
use Rattle.serial_model.specs.declared.end.End.{End}
use Rattle.serial_model.specs.declared.end.End.TheVariants.{Done}
use Rattle.shared_world.specs.Marks.{HasMarks}
use Rattle.shared_world.specs.Rest.{IsAtRest}
use Rattle.shared_world.specs.Shared.{Shared, is_going}
use Rattle.shared_world.specs.Stands.{Stands}
use Rattle.piece_table.specs.Table.{is_free}
use Rattle.unit_table.specs.Board.{AreTied, lent_at, lent_to, marks_ready, piece_at}
use Rattle.value_core.specs.declared.ticket.Ticket.{Ticket}
use Rattle.world_progress.proofs.Progress.{something-can-be-done}
use Rattle.world_progress.specs.Progress.{HasWork}

module _ (s : Shared) (st : Stands s) (marks : HasMarks s) (tied : AreTied s.board) (idle : IsIdle s) where
  -- no end is set
  unended : s.end ≡ None
  unended = on s.end refl
    where
      on : (end : Option End) → s.end ≡ end → s.end ≡ None
      on None e = e
      on (Some set) e = absurd (idle.going (set, (over-set s st set e set).1 refl))

  going : is_going s.end ≡ true
  going = ap is_going unended

  unrested : IsAtRest s → ⊥
  unrested rest = idle.going (Done, (rest-is-over s st unended rest Done).1 refl)

  work : HasWork s
  work = something-can-be-done s st (marks going) going unrested

  -- what can be done something with is lent
  pub claim-out : IsClaimOut s
  claim-out = on (lent_at s.board work.name) refl
    where
      on : (claim : Option Ticket) → lent_at s.board work.name ≡ claim → IsClaimOut s
      on (Some claim) e = record { ticket = claim; piece = work.name; lends = ap (λ c. if c then lent_to s.board claim else None) going ∙ tied.lent claim work.name e }
      on None e =
          let free : true ≡ false =
          sym (ap (λ c. c && is_free (lent_at s.board work.name)) work.ready ∙ ap is_free e)
          ∙ sym (ap (λ c. c && (marks_ready (piece_at s.board work.name) && is_free (lent_at s.board work.name))) going)
          ∙ idle.none work.name in
          cc
