-- What is owed to a run under these limits, with or without a trace.
use Rattle.std.specs.Prelude.{◌≡◌, ◌≢◌, ℕ, ◌⊎◌, List, [], ◌∷◌, Option, IsSome}
use Rattle.world_io.specs.Counts.{Rose}
use Rattle.world_io.specs.Held.{told, IsHeld}
use Rattle.core_syntax.specs.Table.{Table}
use Rattle.serial_model.specs.Limits.{Budget}
use Rattle.command_phases.specs.declared.outcome.Outcome.{Outcome}
use Rattle.command_phases.specs.declared.outcome.Detail.TheVariants.{Nothing}
use Rattle.command_phases.specs.Program.{IsProgramOf}
use Rattle.command_phases.specs.Outcome.{IsEnded, IsWithoutRun, IsOfSource, IsStatusOfEnd, IsIdle, Finished}
use Rattle.command_phases.specs.Seen.{Seen, IsCalm, IsGiven}
use Rattle.command_phases.specs.SourceAnswers.{IsRefusedSource, ReadsSource, Says}
use Rattle.command_phases.specs.Status as exit
use Rattle.command_phases.specs.Traced.{KeepsTrace}

-- The serializability theorem: the run, under these limits, of the program of a source with these bytes.
pub record IsRunOf (bytes : List ℕ) (limits : Budget) (before after : Seen) (outcome : Outcome) : Type 0 where
  pub program : Table
  pub source : IsProgramOf bytes program
  pub finished : Finished (record { program = program; limits = limits }) before.out after.out outcome

-- the run of the source that the file holds, where it is told what it holds
pub record IsRun (file : List ℕ) (limits : Budget) (before after : Seen) (outcome : Outcome) : Type 0 where
  pub bytes : List ℕ
  pub read : IsHeld (told before.files.held file) bytes
  pub run : IsRunOf bytes limits before after outcome

pub record RunAnswers (file : List ℕ) (limits : Budget) (trace : Option (List ℕ)) (before after : Seen) (outcome : Outcome) : Type 0 where
  pub statuses : IsOfSource outcome.status
  -- the run, which for want of memory stops early or never begins
  pub run : IsEnded outcome.status → IsRun file limits before after outcome
  pub ended : IsEnded outcome.status → IsSome outcome.end
  pub unless_memory : outcome.status ≡ exit.no_memory → IsIdle before after outcome ⊎ IsRun file limits before after outcome
  pub complete : (bytes : List ℕ) (program : Table) → IsGiven file bytes before → IsProgramOf bytes program → IsCalm before after
      → IsStatusOfEnd outcome ⊎ (outcome.status ≡ exit.no_memory)
  pub keeps : KeepsTrace limits trace before after outcome
  -- the causes of the other statuses
  pub reads : ReadsSource file (file ∷ []) before after outcome
  pub refused : outcome.status ≡ exit.refused → IsRefusedSource (told before.files.held file) outcome.detail
  pub not_written : outcome.status ≡ exit.not_written
      → Rose before.out.faults after.out.faults ⊎ (Rose before.err.faults after.err.faults ⊎ Rose before.files.write_faults after.files.write_faults)
  -- what else the outcome shows
  pub idle : IsWithoutRun outcome.status → IsIdle before after outcome
  pub detail : outcome.status ≢ exit.refused → outcome.detail ≡ Nothing
  pub says : Says (file ∷ []) before after outcome
