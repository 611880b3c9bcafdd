-- A text that was written to standard output, where nothing is run.
use Rattle.std.specs.Prelude.{◌≡◌, ◌≢◌, ◌≤◌, ℕ, ◌⊎◌, List}
use Rattle.std.specs.Io.KnownBytes.{append_known}
use Rattle.world_io.specs.Counts.{Rose}
use Rattle.world_io.specs.Seen.{SinkSeen}
use Rattle.world_io.specs.Taken.{TookPrefix}
use Rattle.command_phases.specs.declared.outcome.Outcome.{Outcome}
use Rattle.command_phases.specs.declared.outcome.Detail.TheVariants.{Nothing}
use Rattle.command_phases.specs.Status as exit
use Rattle.command_phases.specs.Unrun.{IsUnrun}
use Rattle.command_phases.specs.Written.{IsWritten}

-- A front of it was taken, and all of it where it was written. The status tells which, and a fault is the cause of the other.
pub record IsTold (text : List ℕ) (old new : SinkSeen) (outcome : Outcome) : Type 0 where
  pub status : (outcome.status ≡ exit.done) ⊎ (outcome.status ≡ exit.not_written)
  pub unrun : IsUnrun outcome.status Nothing outcome
  pub prefix : TookPrefix old.taken new.taken text
  pub whole : IsWritten outcome.status old new → new.taken ≡ append_known old.taken text
  pub fault : outcome.status ≡ exit.not_written → Rose old.faults new.faults
  pub unfailed : outcome.status ≢ exit.not_written → new.faults ≡ old.faults
  pub later : old.faults ≤ new.faults
