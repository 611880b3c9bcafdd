-- What was written of a replay.
use Rattle.std.specs.Prelude.{◌≡◌, ◌≢◌, ◌≤◌, ◌⊎◌}
use Rattle.std.specs.Io.KnownBytes.{append_known}
use Rattle.world_io.specs.Counts.{Rose}
use Rattle.world_io.specs.Seen.{SinkSeen}
use Rattle.command_phases.specs.declared.outcome.Outcome.{Outcome}
use Rattle.command_phases.specs.Lines.{detail_line}
use Rattle.command_phases.specs.SaysOutcome.{SaysOutcome}
use Rattle.command_phases.specs.Status as exit

-- The cause of an outcome that was not written, and of each other one; and what standard error took. Where the replay
-- differs, its line was written whole.
pub record ReplayWritten (out out_after err err_after : SinkSeen) (outcome : Outcome) : Type 0 where
  pub not_written : outcome.status ≡ exit.not_written → Rose out.faults out_after.faults ⊎ Rose err.faults err_after.faults
  pub unfailed : outcome.status ≢ exit.not_written → outcome.status ≢ exit.no_memory → (out_after.faults ≡ out.faults) × (err_after.faults ≡ err.faults)
  pub says : SaysOutcome outcome.status outcome.detail outcome.end err err_after
  pub differs_said : outcome.status ≡ exit.differs → err_after.taken ≡ append_known err.taken (detail_line outcome.detail)
  pub out_later : out.faults ≤ out_after.faults
  pub err_later : err.faults ≤ err_after.faults
