-- From what was read and run to what is owed to a run.
use Rattle.std.proofs.Common.{◌≡◌, ◌≢◌, ℕ, List, [], sym, ◌∙◌, subst, inl, inr}
use Rattle.std.specs.Prelude.{◌⊎◌, Option, Err, IsSome}
use Rattle.core_syntax.specs.Table.{Table}
use Rattle.serial_model.specs.Limits.{Budget}
use Rattle.world_io.specs.Counts.{Rose}
use Rattle.world_io.specs.Held.{told}
use Rattle.command_phases.specs.declared.outcome.Outcome.{Outcome}
use Rattle.command_phases.specs.declared.outcome.Detail.TheVariants.{Nothing}
use Rattle.command_phases.specs.declared.load.LoadNo.{LoadNo}
use Rattle.command_phases.specs.LineWritten.{SaysLine}
use Rattle.command_phases.specs.Lines.{load_line}
use Rattle.command_phases.specs.Load.{IsLoaded, Loads}
use Rattle.command_phases.specs.Outcome.{IsEnded, IsIdle, Finished, load_status, load_detail}
use Rattle.command_phases.specs.SaysOutcome.{SaysOutcome}
use Rattle.command_phases.specs.Seen.{Seen, IsUntouched, NoWriteFailed}
use Rattle.command_phases.specs.Traced.{KeepsTrace}
use Rattle.command_phases.specs.Unrun.{IsUnrun}
use Rattle.command_phases.proofs.Statuses.{is_done, no_run, not_four, not_three}
use Rattle.command_phases.proofs.Loading.{error_checks}
use Rattle.command_phases.proofs.Unloaded.{error_detail, error_not_ended, error_status, reads_error, reads_loaded, refused_error, says_error}
use Rattle.run_command.specs.RunAnswers.{IsRun, RunAnswers}
use Rattle.run_command.proofs.Tracing.{KeepsTrace-none}

-- where a file gives no program
pub run_error : (file : List ℕ) (before after : Seen) (outcome : Outcome) (error : LoadNo) → Loads file before.files after.files (Err error)
    → IsUnrun (load_status error) (load_detail error) outcome → (limits : Budget) (trace : Option (List ℕ)) → after.out.taken ≡ before.out.taken → IsUntouched before after
    → SaysLine (load_line file error) before.err after.err → RunAnswers file limits trace before after outcome
run_error file before after outcome error loads unrun limits trace printed files line =
    let idle : IsIdle before after outcome = record { history = unrun.history; end = unrun.end; printed = printed; files = files } in
    record {
      statuses = rw unrun.status (inr (error_status error));
      run = λ ended. absurd (error_not_ended error (subst IsEnded unrun.status ended));
      ended = λ ended. absurd (error_not_ended error (subst IsEnded unrun.status ended));
      unless_memory = λ six. inl idle;
      complete = λ bytes program given source calm. inr (unrun.status
          ∙ error_checks file before.files after.files bytes given error program loads source calm.reads);
      keeps = KeepsTrace-none limits trace before after outcome unrun.end files;
      reads = reads_error file before after outcome error loads unrun;
      refused = refused_error file before after outcome error loads unrun;
      not_written = λ seven. absurd (error_not_ended error (inr (inr (inr (sym unrun.status ∙ seven)))));
      idle = λ w. idle;
      detail = λ apart. unrun.detail ∙ error_detail error (λ e. apart (unrun.status ∙ e));
      says = says_error file before after outcome error loads unrun [] line;
    }

-- where it gives one
module _ (file : List ℕ) (before after : Seen) (outcome : Outcome) (program : Table) (loaded : IsLoaded (told before.files.held file) program)
    (reads : after.files.read_faults ≡ before.files.read_faults) (statuses : IsEnded outcome.status ⊎ (outcome.status ≡ 6))
    (unfailed : outcome.status ≢ 7 → outcome.status ≢ 6 → NoWriteFailed before after) where
  pub run_loaded : (limits : Budget) (trace : Option (List ℕ)) → Finished (record { program = program; limits = limits }) before.out after.out outcome
      → (IsEnded outcome.status → IsSome outcome.end)
      → KeepsTrace limits trace before after outcome
      → (outcome.status ≡ 7 → Rose before.out.faults after.out.faults ⊎ (Rose before.err.faults after.err.faults ⊎ Rose before.files.write_faults after.files.write_faults))
      → outcome.detail ≡ Nothing
      → SaysOutcome outcome.status outcome.detail outcome.end before.err after.err
      → RunAnswers file limits trace before after outcome
  run_loaded limits trace finished ended keeps rises detail line =
      let run : IsRun file limits before after outcome = record {
        bytes = loaded.bytes;
        read = loaded.read;
        run = record { program = program; source = loaded.source; finished = finished };
      } in
      record {
        statuses = elim statuses [ inl e ↦ inl e | inr m ↦ inr (inr m) ];
        run = λ e. run;
        ended = ended;
        unless_memory = λ m. inr run;
        complete = λ bytes other given source calm. is_done outcome statuses ended
            (finished.status_is_the_ends (λ seven. elim (rises seven) [ inl o ↦ calm.out o | inr x ↦ elim x [ inl e ↦ calm.err e | inr w ↦ calm.writes w ] ]));
        keeps = keeps;
        reads = reads_loaded file before after outcome program loaded reads statuses unfailed;
        refused = λ four. absurd (not_four outcome.status statuses four);
        not_written = rises;
        idle = λ w. absurd (no_run outcome.status statuses w);
        detail = λ apart. detail;
        says = record { unread = []; not_read = λ three. absurd (not_three outcome.status statuses three); said = line.said; said_at_most = line.said_at_most; end_said = line.end_said };
      }
