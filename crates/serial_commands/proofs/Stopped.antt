-- What is said of a run or a replay that stopped for want of memory.
use Rattle.std.proofs.Common.{◌≡◌, subst, arith, le_refl}
use Rattle.world_io.specs.Seen.{SinkSeen}
use Rattle.command_phases.specs.declared.outcome.Outcome.{Outcome}
use Rattle.command_phases.specs.LineWritten.{SaysLine}
use Rattle.command_phases.specs.Lines.{memory_line}
use Rattle.command_phases.specs.Outcome.{IsEnded}
use Rattle.serial_commands.specs.ReplayWritten.{ReplayWritten}
use Rattle.command_phases.specs.SaysOutcome.{SaysOutcome}
use Rattle.command_phases.proofs.Statuses.{six_not_ended}

module _ (outcome : Outcome) (six : outcome.status ≡ 6) where
  pub not_ended : IsEnded outcome.status → ⊥
  not_ended ended = six_not_ended (subst IsEnded six ended)

  pub SaysOutcome-stopped : (old new : SinkSeen) → SaysLine memory_line old new → SaysOutcome outcome.status outcome.detail outcome.end old new
  SaysOutcome-stopped old new line = record { said = rw six line.said; said_at_most = rw six line.said_at_most; end_said = λ ended written. absurd (not_ended ended) }

  pub ReplayWritten-stopped : (out err err_after : SinkSeen) → SaysLine memory_line err err_after → ReplayWritten out out err err_after outcome
  ReplayWritten-stopped out err err_after line = record {
    not_written = λ seven. absurd (omega (arith, six, seven));
    unfailed = λ apart apart_six. absurd (apart_six six);
    says = SaysOutcome-stopped err err_after line;
    differs_said = λ eight. absurd (omega (arith, six, eight));
    out_later = le_refl out.faults;
    err_later = line.later;
  }
