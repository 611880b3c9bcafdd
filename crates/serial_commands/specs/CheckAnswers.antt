-- What is owed to `check FILE`.
use Rattle.std.specs.Prelude.{◌≡◌, ◌≢◌, ℕ, ◌⊎◌, List, [], ◌∷◌, None}
use Rattle.std.specs.Io.KnownBytes.{append_known}
use Rattle.world_io.specs.Counts.{Rose}
use Rattle.world_io.specs.Held.{told, IsHeld}
use Rattle.world_io.specs.Taken.{TookPrefix}
use Rattle.core_syntax.specs.Table.{Table}
use Rattle.command_phases.specs.declared.outcome.Outcome.{Outcome}
use Rattle.command_phases.specs.declared.outcome.Detail.TheVariants.{Nothing}
use Rattle.command_phases.specs.Check.{check_line}
use Rattle.command_phases.specs.Program.{IsProgramOf}
use Rattle.command_phases.specs.Outcome.{IsEnded, IsOfSource, IsIdle}
use Rattle.command_phases.specs.Seen.{Seen, IsCalm, IsGiven, IsUntouched}
use Rattle.command_phases.specs.SourceAnswers.{IsRefusedSource, ReadsSource, Says}
use Rattle.command_phases.specs.Status as exit
use Rattle.command_phases.specs.Written.{IsWritten}

-- The file holds a source with this program by scope, where it is told what it holds: a front of the line of its counts
-- went to standard output, and all of it where it was written.
pub record IsChecked (file : List ℕ) (before after : Seen) (outcome : Outcome) : Type 0 where
  pub bytes : List ℕ
  pub program : Table
  pub read : IsHeld (told before.files.held file) bytes
  pub source : IsProgramOf bytes program
  pub done : (outcome.status ≡ exit.done) ⊎ (outcome.status ≡ exit.not_written)
  pub prefix : TookPrefix before.out.taken after.out.taken (check_line program)
  pub all_when_written : IsWritten outcome.status before.out after.out → after.out.taken ≡ append_known before.out.taken (check_line program)

pub record CheckAnswers (file : List ℕ) (before after : Seen) (outcome : Outcome) : Type 0 where
  pub statuses : IsOfSource outcome.status
  pub checked : IsEnded outcome.status → IsChecked file before after outcome
  pub complete : (bytes : List ℕ) (program : Table) → IsGiven file bytes before → IsProgramOf bytes program → IsCalm before after
      → (outcome.status ≡ exit.done) ⊎ (outcome.status ≡ exit.no_memory)
  -- the causes of the other statuses
  pub reads : ReadsSource file (file ∷ []) before after outcome
  pub refused : outcome.status ≡ exit.refused → IsRefusedSource (told before.files.held file) outcome.detail
  pub not_written : outcome.status ≡ exit.not_written → Rose before.out.faults after.out.faults
  -- what else the outcome shows: nothing is run, and no name changes
  pub no_entries : outcome.history.items ≡ []
  pub no_end : outcome.end ≡ None
  pub files : IsUntouched before after
  pub idle : (IsEnded outcome.status → ⊥) → IsIdle before after outcome
  pub detail : outcome.status ≢ exit.refused → outcome.detail ≡ Nothing
  pub says : Says (file ∷ []) before after outcome
