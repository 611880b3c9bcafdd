-- A line that is written where the bytes before it were.
use Rattle.std.specs.Prelude.{◌≡◌, ◌≢◌, ◌≤◌, ℕ, ◌⊎◌, Result, IsOk, IsErr}
use Rattle.world_io.specs.Counts.{Rose}
use Rattle.world_io.specs.Seen.{SinkSeen}
use Rattle.world_io.specs.declared.sink.Failed.{Failed}
use Rattle.command_phases.specs.Status as exit

-- the status tells whether both were written, and its cause where they were not
pub record WritesAfter (written : Result Unit Failed) (old new : SinkSeen) (status : ℕ) : Type 0 where
  pub unwritten : IsErr written → status ≡ exit.not_written
  pub fault : status ≡ exit.not_written → IsErr written ⊎ Rose old.faults new.faults
  pub unfailed : status ≢ exit.not_written → IsOk written × (new.faults ≡ old.faults)
  pub later : old.faults ≤ new.faults
