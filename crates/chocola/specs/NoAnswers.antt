-- What is owed to words that are refused.
use Rattle.std.specs.Prelude.{◌≡◌, ◌⊎◌, []}
use Rattle.command_phases.specs.declared.outcome.Outcome.{Outcome}
use Rattle.command_phases.specs.declared.outcome.Detail.TheVariants.{Nothing}
use Rattle.command_phases.specs.Outcome.{IsIdle}
use Rattle.command_phases.specs.Seen.{Seen}
use Rattle.command_phases.specs.SourceAnswers.{Says}
use Rattle.command_phases.specs.Status as exit

-- nothing is read, run or written, and the words are said to be refused, or there was no memory
pub record NoCommand (before after : Seen) (outcome : Outcome) : Type 0 where
  pub status : (outcome.status ≡ exit.usage) ⊎ (outcome.status ≡ exit.no_memory)
  pub idle : IsIdle before after outcome
  pub reads : after.files.read_faults ≡ before.files.read_faults
  pub detail : outcome.detail ≡ Nothing
  pub says : Says [] before after outcome
