-- What is owed to `schedule FILE SCHEDULE`.
use Rattle.std.specs.Prelude.{◌≡◌, ◌≢◌, ℕ, ◌⊎◌, List, [], ◌∷◌, Option, IsSome}
use Rattle.core_syntax.specs.Table.{Table}
use Rattle.schedule_text.specs.declared.line.Line.{Line}
use Rattle.schedule_text.specs.Schedule.{IsTextOfSchedule, schedule_refusal}
use Rattle.serial_model.specs.Limits.{Budget}
use Rattle.serial_model.specs.State.{Setup}
use Rattle.serial_model.specs.declared.trace.LineKind.{LineKind}
use Rattle.world_io.specs.Counts.{Rose}
use Rattle.world_io.specs.Held.{told, IsHeld}
use Rattle.world_io.specs.Seen.{SinkSeen}
use Rattle.command_phases.specs.declared.outcome.Outcome.{Outcome}
use Rattle.command_phases.specs.declared.outcome.Detail.{Detail}
use Rattle.command_phases.specs.declared.outcome.Detail.TheVariants.{Nothing}
use Rattle.schedule_command.specs.Driven.{IsReportOf}
use Rattle.command_phases.specs.Load.{IsLoaded}
use Rattle.command_phases.specs.LoadPair.{IsScheduleDue}
use Rattle.command_phases.specs.Outcome.{IsEnded, IsWithoutRun, IsOfSource, IsStatusOfEnd, IsIdle, Finished, refused_schedule}
use Rattle.command_phases.specs.Program.{IsProgramOf}
use Rattle.command_phases.specs.SaysReport.{SaysReport}
use Rattle.command_phases.specs.Seen.{Seen, ReadsWell, IsCalm, IsGiven}
use Rattle.command_phases.specs.SourceAnswers.{AreThere, IsRefusedSource, ReadsSource, Says}
use Rattle.command_phases.specs.Status as exit
use Rattle.command_phases.specs.Traced.{KeepsTrace}

-- the report of the lines, and what standard error took of it and of the line behind it
pub record Reports (setup : Setup) (lines : List Line) (old new : SinkSeen) (outcome : Outcome) : Type 0 where
  pub report : List ℕ
  pub of_lines : IsReportOf setup lines report outcome.history.items
  pub says : SaysReport report outcome.status outcome.end old new

-- The run of the source that FILE holds, by the lines that SCHEDULE holds and then to its end, where it is told what they hold.
-- Where it came to its end it is reported.
pub record IsScheduleRun (file schedule : List ℕ) (limits : Budget) (before after : Seen) (outcome : Outcome) : Type 0 where
  pub bytes : List ℕ
  pub text : List ℕ
  pub program : Table
  pub lines : List Line
  pub read : IsHeld (told before.files.held file) bytes
  pub source : IsProgramOf bytes program
  pub read_schedule : IsHeld (told before.files.held schedule) text
  pub is_text : IsTextOfSchedule lines text
  pub finished : Finished (record { program = program; limits = limits }) before.out after.out outcome
  pub reported : IsEnded outcome.status → Reports (record { program = program; limits = limits }) lines before.err after.err outcome

-- the cause of a refusal: the source, or the schedule
abbrev pub IsRefusedSchedule : List ℕ → List ℕ → Seen → Detail → Type 0
IsRefusedSchedule file schedule before detail =
    IsRefusedSource (told before.files.held file) detail
    ⊎ ((kind : LineKind) × (line : ℕ) × IsScheduleDue (told before.files.held schedule) kind line × (detail ≡ refused_schedule kind line))

pub record ScheduleAnswers (file schedule : List ℕ) (limits : Budget) (trace : Option (List ℕ)) (before after : Seen) (outcome : Outcome) : Type 0 where
  pub statuses : IsOfSource outcome.status
  -- the run, which for want of memory stops early or never begins
  pub run : IsEnded outcome.status → IsScheduleRun file schedule limits before after outcome
  pub ended : IsEnded outcome.status → IsSome outcome.end
  pub unless_memory : outcome.status ≡ exit.no_memory → IsIdle before after outcome ⊎ IsScheduleRun file schedule limits before after outcome
  pub complete : (bytes text : List ℕ) (program : Table) (lines : List Line) → IsGiven file bytes before → IsProgramOf bytes program
      → IsGiven schedule text before → IsTextOfSchedule lines text → IsCalm before after → IsStatusOfEnd outcome ⊎ (outcome.status ≡ exit.no_memory)
  pub keeps : KeepsTrace limits trace before after outcome
  -- the causes of the other statuses
  pub reads : ReadsSource file (file ∷ schedule ∷ []) before after outcome
  pub must_refuse_schedule : (bytes text : List ℕ) (program : Table) (kind : LineKind) (line : ℕ) → IsGiven file bytes before → IsProgramOf bytes program
      → IsGiven schedule text before → schedule_refusal text kind line → ReadsWell before after
      → ((outcome.status ≡ exit.refused) × (outcome.detail ≡ refused_schedule kind line)) ⊎ (outcome.status ≡ exit.no_memory)
  pub refused : outcome.status ≡ exit.refused → IsRefusedSchedule file schedule before outcome.detail
  pub not_written : outcome.status ≡ exit.not_written
      → Rose before.out.faults after.out.faults ⊎ (Rose before.err.faults after.err.faults ⊎ Rose before.files.write_faults after.files.write_faults)
  -- what else the outcome shows
  pub idle : IsWithoutRun outcome.status → IsIdle before after outcome
  pub detail : outcome.status ≢ exit.refused → outcome.detail ≡ Nothing
  pub says : (IsEnded outcome.status → ⊥) → Says (file ∷ schedule ∷ []) before after outcome
