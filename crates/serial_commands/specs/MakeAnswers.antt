-- What is owed to `make NUMBER SIZE`.
use Rattle.std.specs.Prelude.{◌≡◌, ℕ, ◌⊎◌, [], None}
use Rattle.std.specs.Io.KnownBytes.{append_known}
use Rattle.program_maker.specs.MadeText.{made_text}
use Rattle.world_io.specs.Counts.{Rose}
use Rattle.world_io.specs.Taken.{TookPrefix}
use Rattle.command_phases.specs.declared.outcome.Outcome.{Outcome}
use Rattle.command_phases.specs.declared.outcome.Detail.TheVariants.{Nothing}
use Rattle.command_phases.specs.Outcome.{IsIdle}
use Rattle.command_phases.specs.Seen.{Seen, IsCalm, WriteFailed}
use Rattle.command_phases.specs.SourceAnswers.{Says}
use Rattle.command_phases.specs.Status as exit
use Rattle.command_phases.specs.Written.{IsWritten}

-- A front of the text of the program that is made from the number and the size went to standard output, and all of it where it
-- was written. No file is read, and no name changes.
pub record MakeAnswers (number size : ℕ) (before after : Seen) (outcome : Outcome) : Type 0 where
  pub statuses : (outcome.status ≡ exit.done) ⊎ ((outcome.status ≡ exit.not_written) ⊎ (outcome.status ≡ exit.no_memory))
  pub bytes_are_the_text : TookPrefix before.out.taken after.out.taken (made_text number size)
  pub all_when_written : IsWritten outcome.status before.out after.out → after.out.taken ≡ append_known before.out.taken (made_text number size)
  pub complete : IsCalm before after → (outcome.status ≡ exit.done) ⊎ (outcome.status ≡ exit.no_memory)
  -- the cause of the other status, and what a failed write comes to
  pub not_written : outcome.status ≡ exit.not_written → Rose before.out.faults after.out.faults
  pub failed_write : WriteFailed before after → (outcome.status ≡ exit.no_memory) ⊎ (outcome.status ≡ exit.not_written)
  -- what else the outcome shows: nothing is run
  pub no_entries : outcome.history.items ≡ []
  pub no_end : outcome.end ≡ None
  pub detail : outcome.detail ≡ Nothing
  pub files : after.files ≡ before.files
  pub idle : outcome.status ≡ exit.no_memory → IsIdle before after outcome
  pub says : Says [] before after outcome
