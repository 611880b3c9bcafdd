-- A run that stopped for want of memory.
use Rattle.std.proofs.Common.{◌≡◌, ℕ, List, refl, inr, arith}
use Rattle.std.specs.Prelude.{Option, None}
use Rattle.serial_model.specs.State.{Setup}
use Rattle.world_io.specs.Seen.{SinkSeen}
use Rattle.command_phases.specs.declared.outcome.Outcome.{Outcome}
use Rattle.command_phases.specs.declared.outcome.Detail.TheVariants.{Nothing}
use Rattle.command_phases.specs.Outcome.{Finished}
use Rattle.run_command.specs.ProgramAnswers.{ProgramAnswers}
use Rattle.command_phases.specs.Seen.{Seen}
use Rattle.serial_commands.proofs.Stopped.{not_ended}
use Rattle.run_command.proofs.Tracing.{KeepsTrace-none}

module _ (outcome : Outcome) (six : outcome.status ≡ 6) where
  pub ProgramAnswers-stopped : (setup : Setup) (trace : Option (List ℕ)) (before : Seen) (out err : SinkSeen) → outcome.detail ≡ Nothing → outcome.end ≡ None
      → Finished setup before.out out outcome → ProgramAnswers setup trace before (record before { out = out; err = err }) outcome
  ProgramAnswers-stopped setup trace before out err nothing none finished = record {
    statuses = inr six;
    finished = finished;
    ended = λ ended. absurd (not_ended outcome six ended);
    keeps = KeepsTrace-none setup.limits trace before (record before { out = out; err = err }) outcome none (record { held = refl; faults = refl });
    not_written = λ seven. absurd (omega (arith, six, seven));
    unfailed = λ apart apart_six. absurd (apart_six six);
    detail = nothing;
    reads = refl;
  }
