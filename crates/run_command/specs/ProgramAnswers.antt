-- What is owed to the run of a program that was read, apart from what is said of it.
use Rattle.std.specs.Prelude.{◌≡◌, ◌≢◌, ℕ, ◌⊎◌, List, Option, IsSome}
use Rattle.world_io.specs.Counts.{Rose}
use Rattle.serial_model.specs.State.{Setup}
use Rattle.command_phases.specs.declared.outcome.Outcome.{Outcome}
use Rattle.command_phases.specs.declared.outcome.Detail.TheVariants.{Nothing}
use Rattle.command_phases.specs.Outcome.{IsEnded, Finished}
use Rattle.command_phases.specs.Seen.{Seen, NoWriteFailed}
use Rattle.command_phases.specs.Status as exit
use Rattle.command_phases.specs.Traced.{KeepsTrace}

pub record ProgramAnswers (setup : Setup) (trace : Option (List ℕ)) (before after : Seen) (outcome : Outcome) : Type 0 where
  pub statuses : IsEnded outcome.status ⊎ (outcome.status ≡ exit.no_memory)
  pub finished : Finished setup before.out after.out outcome
  pub ended : IsEnded outcome.status → IsSome outcome.end
  pub keeps : KeepsTrace setup.limits trace before after outcome
  -- the cause of an outcome that was not written, and of each other one
  pub not_written : outcome.status ≡ exit.not_written
      → Rose before.out.faults after.out.faults ⊎ (Rose before.err.faults after.err.faults ⊎ Rose before.files.write_faults after.files.write_faults)
  pub unfailed : outcome.status ≢ exit.not_written → outcome.status ≢ exit.no_memory → NoWriteFailed before after
  -- what else the outcome shows: no file is read
  pub detail : outcome.detail ≡ Nothing
  pub reads : after.files.read_faults ≡ before.files.read_faults
