-- What is owed where there is no run of the files by a schedule.
use Rattle.std.proofs.Common.{◌≡◌, ℕ, List, sym, ◌∙◌, subst, inl, inr}
use Rattle.std.specs.Prelude.{Option}
use Rattle.schedule_text.proofs.Unique.{not_refused, one_refusal}
use Rattle.schedule_text.specs.Schedule.{schedule_refusal}
use Rattle.serial_model.specs.Limits.{Budget}
use Rattle.command_phases.specs.declared.load_pair.PairNo.{PairNo}
use Rattle.command_phases.specs.declared.outcome.Outcome.{Outcome}
use Rattle.command_phases.specs.declared.outcome.Part.TheVariants as part
use Rattle.command_phases.specs.LineWritten.{SaysLine}
use Rattle.command_phases.specs.Lines.{pair_line}
use Rattle.command_phases.specs.LoadPair.{RefusesPair}
use Rattle.command_phases.specs.Outcome.{IsEnded, IsIdle, pair_detail, pair_status}
use Rattle.command_phases.specs.Seen.{Seen, IsUntouched}
use Rattle.command_phases.specs.Unrun.{IsUnrun}
use Rattle.command_phases.proofs.PairErrors.{pair_completes, pair_is_without, pair_must_refuse_lines, pair_no_detail, pair_not_ended, pair_refused, reads_pair_error, says_pair_error}
use Rattle.schedule_command.specs.ScheduleAnswers.{ScheduleAnswers}
use Rattle.run_command.proofs.Tracing.{KeepsTrace-none}

module _ (file schedule : List ℕ) (before after : Seen) (outcome : Outcome) (error : PairNo) (h : RefusesPair schedule_refusal file schedule before.files after.files error)
    (unrun : IsUnrun (pair_status error) (pair_detail part.Schedule error) outcome) where
  never_ended : IsEnded outcome.status → ⊥
  never_ended e = pair_not_ended error (subst IsEnded unrun.status e)

  pub schedule_error : (limits : Budget) (trace : Option (List ℕ)) → after.out.taken ≡ before.out.taken → IsUntouched before after
      → SaysLine (pair_line part.Schedule file schedule error) before.err after.err → ScheduleAnswers file schedule limits trace before after outcome
  schedule_error limits trace printed files line =
      let idle : IsIdle before after outcome = record { history = unrun.history; end = unrun.end; printed = printed; files = files } in
      record {
        statuses = rw unrun.status (inr (pair_is_without error));
        run = λ e. absurd (never_ended e);
        ended = λ e. absurd (never_ended e);
        unless_memory = λ six. inl idle;
        complete = λ bytes text program lines is source given is_text calm.
            inr (unrun.status ∙ pair_completes schedule_refusal part.Schedule file schedule before after bytes is calm.reads program source text given error h
            (λ kind line refusal. not_refused text lines kind line is_text refusal));
        keeps = KeepsTrace-none limits trace before after outcome unrun.end files;
        reads = reads_pair_error schedule_refusal part.Schedule file schedule before after outcome error h unrun;
        must_refuse_schedule = λ bytes text program kind line is source given refusal calm. rw (unrun.status, unrun.detail)
            (pair_must_refuse_lines schedule_refusal part.Schedule file schedule before after bytes is calm program source text given error h kind line
            (λ k l due. one_refusal text k kind l line due refusal));
        refused = λ four. rw unrun.detail (pair_refused schedule_refusal part.Schedule file schedule before after error h (sym unrun.status ∙ four));
        not_written = λ seven. absurd (never_ended (inr (inr (inr seven))));
        idle = λ w. idle;
        detail = λ apart. unrun.detail ∙ pair_no_detail part.Schedule error (λ e. apart (unrun.status ∙ e));
        says = λ e. says_pair_error schedule_refusal part.Schedule file schedule before after outcome error h unrun line;
      }
