-- From a run that came to its end, and what was written of it, to what is owed to it.
use Rattle.std.proofs.Common.{◌≡◌, List, ℕ, refl, subst, inl, inr}
use Rattle.std.specs.Prelude.{Option, IfSome, IsSome, Result, OnOk}
use Rattle.std.specs.Io.KnownBytes.{append_known}
use Rattle.core_syntax.specs.Table.{Table}
use Rattle.serial_machine.specs.Progress.{Progress, state_of}
use Rattle.serial_model.specs.Limits.{Budget}
use Rattle.serial_model.specs.Replay.{IsOver}
use Rattle.serial_model.specs.State.{Setup}
use Rattle.serial_model.specs.declared.end.End.{End}
use Rattle.serial_model.specs.declared.trace.Trace.{Trace}
use Rattle.world_io.specs.Taken.{CountsWrite, TookPrefix}
use Rattle.world_io.specs.declared.sink.Failed.{Failed}
use Rattle.command_phases.specs.declared.outcome.Outcome.{Outcome}
use Rattle.command_phases.specs.declared.outcome.Detail.TheVariants.{Nothing}
use Rattle.command_phases.specs.EndWritten.{EndWritten}
use Rattle.command_phases.specs.Outcome.{Finished, end_unless_memory}
use Rattle.run_command.specs.ProgramAnswers.{ProgramAnswers}
use Rattle.command_phases.specs.Seen.{Seen}
use Rattle.serial_commands.proofs.Finishes.{Finished-of, none_counted, over_unless, rose, some_unless, status_unless, wrote_whole}
use Rattle.run_command.proofs.Tracing.{KeepsTrace-of}

module _ (program : Table) (limits : Budget) (trace : Option (List ℕ)) (before after : Seen) (outcome : Outcome) (end : End) where
  abbrev setup : Setup
  setup = record { program = program; limits = limits }

  abbrev ran : Trace
  ran = record { limits = limits; history = outcome.history; end = end }

  pub ProgramAnswers-of : (p : Progress) (output : List ℕ) (written : Result Unit Failed)
      → p.setup ≡ setup → outcome.history.items ≡ p.history → IsSome (state_of p) → IfSome (state_of p) (λ s. output ≡ s.bytes) → IfSome (state_of p) (λ s. IsOver p.setup s end)
      → outcome.end ≡ end_unless_memory outcome.status end → outcome.detail ≡ Nothing
      → TookPrefix before.out.taken after.out.taken output → OnOk written (after.out.taken ≡ append_known before.out.taken output)
      → CountsWrite written before.out.faults after.out.faults
      → EndWritten written ran trace before.files after.files before.err after.err outcome.status
      → ProgramAnswers setup trace before after outcome
  ProgramAnswers-of p output written same entries is bytes over is_end detail prefix whole counts ends = record {
    statuses = ends.status;
    finished = subst (λ of. Finished of before.out after.out outcome) same
        (Finished-of p outcome output before.out after.out entries is bytes (over_unless p outcome.status end outcome.end is_end over) prefix
        (wrote_whole written outcome.status before.out after.out _ counts (λ e. (ends.unwritten e).0) whole)
        (status_unless outcome.status outcome.status end outcome.end is_end refl ends.of_end));
    ended = λ e. some_unless outcome.status end outcome.end is_end e;
    keeps = KeepsTrace-of limits trace before after outcome end written is_end counts (λ e. (ends.unwritten e).0) ends.holds ends.others
        (λ e. let none = ends.unwritten e in record { held = none.1; faults = none.2 })
        (λ six. let same = ends.untouched six in record { held = same.0; faults = same.1 });
    not_written = λ seven. elim (ends.fault seven) [ inl e ↦ inl (rose written _ _ counts e) | inr r ↦ inr r ];
    unfailed = λ seven six. let none = ends.unfailed seven six in record { out = none_counted written _ _ counts none.0; err = none.1; files = none.2 };
    detail = detail;
    reads = ends.reads;
  }
