-- What is owed to `stress NUMBER SIZE`.
use Rattle.std.specs.Prelude.{◌≡◌, ℕ, ◌⊎◌, [], IsSome}
use Rattle.program_maker.specs.MadeText.{made_text}
use Rattle.serial_model.specs.Limits.{default_budget}
use Rattle.world_io.specs.Counts.{Rose}
use Rattle.command_phases.specs.declared.outcome.Outcome.{Outcome}
use Rattle.command_phases.specs.declared.outcome.Detail.TheVariants.{Nothing}
use Rattle.command_phases.specs.Outcome.{IsEnded, IsIdle, IsStatusOfEnd}
use Rattle.command_phases.specs.Seen.{Seen, IsCalm, IsUntouched, WriteFailed}
use Rattle.command_phases.specs.SourceAnswers.{Says}
use Rattle.command_phases.specs.Status as exit
use Rattle.run_command.specs.RunAnswers.{IsRunOf}

-- The run, under the default limits, of the text of the program that is made from the number and the size. No such text is refused, no
-- file is read, and no name changes.
pub record StressAnswers (number size : ℕ) (before after : Seen) (outcome : Outcome) : Type 0 where
  pub statuses : IsEnded outcome.status ⊎ (outcome.status ≡ exit.no_memory)
  -- the run, which for want of memory stops early or never begins
  pub run : IsEnded outcome.status → IsRunOf (made_text number size) default_budget before after outcome
  pub ended : IsEnded outcome.status → IsSome outcome.end
  pub unless_memory : outcome.status ≡ exit.no_memory → IsIdle before after outcome ⊎ IsRunOf (made_text number size) default_budget before after outcome
  pub complete : IsCalm before after → IsStatusOfEnd outcome ⊎ (outcome.status ≡ exit.no_memory)
  -- the cause of the other status, and what a failed write comes to
  pub failed_write : WriteFailed before after → (outcome.status ≡ exit.no_memory) ⊎ (outcome.status ≡ exit.not_written)
  pub not_written : outcome.status ≡ exit.not_written
      → Rose before.out.faults after.out.faults ⊎ (Rose before.err.faults after.err.faults ⊎ Rose before.files.write_faults after.files.write_faults)
  -- what else the outcome shows
  pub files : IsUntouched before after
  pub reads : after.files.read_faults ≡ before.files.read_faults
  pub detail : outcome.detail ≡ Nothing
  pub says : Says [] before after outcome
