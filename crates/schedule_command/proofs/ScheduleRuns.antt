-- From a run by a schedule to what is owed to it.
use Rattle.std.proofs.Common.{◌≡◌, ◌≢◌, ◌∙◌, ℕ, List, [], subst, inl, inr}
use Rattle.std.specs.Prelude.{◌⊎◌, Option}
use Rattle.core_syntax.specs.Table.{Table}
use Rattle.schedule_text.proofs.Unique.{not_refused}
use Rattle.schedule_text.specs.Schedule.{IsTextOfSchedule, schedule_refusal}
use Rattle.schedule_text.specs.declared.line.Line.{Line}
use Rattle.serial_model.specs.Limits.{Budget}
use Rattle.serial_model.specs.State.{Setup}
use Rattle.world_io.specs.Counts.{Rose}
use Rattle.world_io.specs.Held.{told}
use Rattle.command_phases.specs.declared.outcome.Outcome.{Outcome}
use Rattle.command_phases.specs.Load.{IsLoaded}
use Rattle.command_phases.specs.LoadPair.{IsHeldAs}
use Rattle.command_phases.specs.Outcome.{IsEnded}
use Rattle.run_command.specs.ProgramAnswers.{ProgramAnswers}
use Rattle.command_phases.specs.SaysOutcome.{SaysOutcome}
use Rattle.schedule_command.specs.ScheduleAnswers.{IsScheduleRun, Reports, ScheduleAnswers}
use Rattle.command_phases.specs.Seen.{Seen, NoWriteFailed, seen}
use Rattle.world_io.specs.Seen.{FilesSeen}
use Rattle.command_phases.proofs.Statuses.{is_done, must_tell, no_run, not_four, not_three}
use Rattle.command_phases.proofs.Loading.{held_bytes}
use Rattle.command_phases.proofs.PairErrors.{reads_pair}
use Rattle.run_command.proofs.Tracing.{KeepsTrace-read}

module _ (file schedule : List ℕ) (limits : Budget) (trace : Option (List ℕ)) (before after : Seen) (mid : FilesSeen) (outcome : Outcome) (program : Table) (lines : List Line)
    (loaded : IsLoaded (told before.files.held file) program) (scheduled : IsHeldAs (IsTextOfSchedule lines) (told before.files.held schedule))
    (quiet : mid.read_faults ≡ before.files.read_faults) (same : mid.held ≡ before.files.held) (none : mid.write_faults ≡ before.files.write_faults) where
  abbrev setup : Setup
  setup = record { program = program; limits = limits }

  module _ (answers : ProgramAnswers setup trace (seen mid before.out before.err) after outcome) where
    unfailed : outcome.status ≢ 7 → outcome.status ≢ 6 → NoWriteFailed before after
    unfailed seven six = let calm = answers.unfailed seven six in record { out = calm.out; err = calm.err; files = calm.files ∙ none }

    rises : outcome.status ≡ 7 → Rose before.out.faults after.out.faults ⊎ (Rose before.err.faults after.err.faults ⊎ Rose before.files.write_faults after.files.write_faults)
    rises = rw none at answers.not_written

    pub schedule_loaded : (IsEnded outcome.status → Reports setup lines before.err after.err outcome)
        → ((IsEnded outcome.status → ⊥) → SaysOutcome outcome.status outcome.detail outcome.end before.err after.err)
        → ScheduleAnswers file schedule limits trace before after outcome
    schedule_loaded reports line =
        let run : IsScheduleRun file schedule limits before after outcome = record {
          bytes = loaded.bytes;
          text = scheduled.bytes;
          program = program;
          lines = lines;
          read = loaded.read;
          source = loaded.source;
          read_schedule = scheduled.read;
          is_text = scheduled.text;
          finished = answers.finished;
          reported = reports;
        } in
        record {
          statuses = elim answers.statuses [ inl e ↦ inl e | inr m ↦ inr (inr m) ];
          run = λ e. run;
          ended = answers.ended;
          unless_memory = λ m. inr run;
          complete = λ bytes text other others is source given is_text calm. is_done outcome answers.statuses answers.ended
              (answers.finished.status_is_the_ends (λ seven. elim (rises seven) [ inl o ↦ calm.out o | inr x ↦ elim x [ inl e ↦ calm.err e | inr w ↦ calm.writes w ] ]));
          keeps = KeepsTrace-read limits trace before after mid outcome same none answers.keeps;
          reads = reads_pair file schedule before after outcome program (IsTextOfSchedule lines) loaded scheduled (answers.reads ∙ quiet) (must_tell before after outcome.status answers.statuses unfailed);
          must_refuse_schedule = λ bytes text other kind at is source given refusal calm.
              let held = held_bytes (told before.files.held schedule) text scheduled.bytes given scheduled.read in
              absurd (not_refused scheduled.bytes lines kind at scheduled.text (subst (λ b. schedule_refusal b kind at) held refusal));
          refused = λ four. absurd (not_four outcome.status answers.statuses four);
          not_written = rises;
          idle = λ w. absurd (no_run outcome.status answers.statuses w);
          detail = λ apart. answers.detail;
          says = λ e. let said = line e in
              record { unread = []; not_read = λ three. absurd (not_three outcome.status answers.statuses three); said = said.said; said_at_most = said.said_at_most; end_said = said.end_said };
        }
