-- What an outcome says of its end, its status and its detail.
use Rattle.std.specs.Prelude.{◌≡◌, ◌≢◌, ℕ, ◌⊎◌, ◌==◌, if◌then◌else◌, [], Option, None, Some, IfSome, IsSomeAnd}
use Rattle.std.specs.Io.KnownBytes.{append_known}
use Rattle.value_core.specs.Place.{Spot}
use Rattle.world_io.specs.Seen.{SinkSeen}
use Rattle.world_io.specs.Taken.{TookPrefix}
use Rattle.sexpr_reader.specs.declared.error.ReadKind.{ReadKind}
use Rattle.sexpr_reader.specs.Kinds as text
use Rattle.scope_refusals.specs.declared.kind.ScopeKind.{ScopeKind}
use Rattle.scope_refusals.specs.Kinds as scope
use Rattle.serial_model.specs.declared.end.End.{End}
use Rattle.serial_model.specs.declared.end.End.TheVariants.{UnitsSpent}
use Rattle.serial_model.specs.State.{Setup, State}
use Rattle.serial_model.specs.Replay.{replay, IsOver, status}
use Rattle.serial_model.specs.declared.trace.LineKind.{LineKind}
use Rattle.serial_model.specs.Kinds as trace
use Rattle.command_phases.specs.declared.outcome.Outcome.{Outcome}
use Rattle.command_phases.specs.declared.outcome.Detail.{Detail}
use Rattle.command_phases.specs.declared.outcome.Detail.TheVariants.{Nothing, Refused}
use Rattle.command_phases.specs.declared.outcome.Part.TheVariants.{Source, Scope, Trace, Schedule}
use Rattle.command_phases.specs.declared.load.LoadNo.{LoadNo}
use Rattle.command_phases.specs.declared.load.LoadNo.TheVariants as load
use Rattle.command_phases.specs.declared.load_pair.PairNo.{PairNo}
use Rattle.command_phases.specs.declared.load_pair.PairNo.TheVariants as pair
use Rattle.command_phases.specs.declared.outcome.Part.{Part}
use Rattle.command_phases.specs.Seen.{Seen, IsUntouched}
use Rattle.command_phases.specs.Status as exit
use Rattle.command_phases.specs.Written.{IsWritten}

-- a run, a replay or a check came to its end
abbrev pub IsEnded : ℕ → Type 0
IsEnded s = (s ≡ exit.done) ⊎ ((s ≡ exit.fault) ⊎ ((s ≡ exit.spent) ⊎ (s ≡ exit.not_written)))

-- the statuses where the source is not run
abbrev pub IsWithoutRun : ℕ → Type 0
IsWithoutRun s = (s ≡ exit.not_read) ⊎ (s ≡ exit.refused)

-- the statuses of a run and of a check: those, and want of memory
abbrev pub IsOfSource : ℕ → Type 0
IsOfSource s = IsEnded s ⊎ (IsWithoutRun s ⊎ (s ≡ exit.no_memory))

-- the statuses that can come
abbrev pub IsStatus : ℕ → Type 0
IsStatus s = IsOfSource s ⊎ ((s ≡ exit.usage) ⊎ (s ≡ exit.differs))

-- the status is that of the end
abbrev pub IsStatusOfEnd : Outcome → Type 0
IsStatusOfEnd outcome = IsSomeAnd outcome.end (λ end. status end ≡ outcome.status)

-- the detail of a refused source
abbrev pub refused_as : ReadKind → Spot → Detail
refused_as kind at = Refused Source (text.kind_number kind) at.line at.column

-- the detail of a source whose forms are refused
abbrev pub out_of_scope : ScopeKind → Spot → Detail
out_of_scope kind at = Refused Scope (scope.kind_number kind) at.line at.column

-- the detail of a text that is refused as this part, and is read line by line
abbrev pub refused_lines : Part → LineKind → ℕ → Detail
refused_lines part kind line = Refused part (trace.kind_number kind) line 1

-- the detail of a refused trace
abbrev pub refused_trace : LineKind → ℕ → Detail
refused_trace kind line = refused_lines Trace kind line

-- the detail of a refused schedule
abbrev pub refused_schedule : LineKind → ℕ → Detail
refused_schedule kind line = refused_lines Schedule kind line

-- A run or a replay: the history replays to a state; the end is the state's, where there is one, and the status is that
-- of the end; a front of the state's bytes went to standard output, and all of them where they were written. Where the
-- run ends for want of a unit, it has made as many as its limit.
pub record Finished (setup : Setup) (old new : SinkSeen) (outcome : Outcome) : Type 0 where
  pub state : State
  pub history_replays : replay setup outcome.history.items ≡ Some state
  pub end_is_the_replays : IfSome outcome.end (IsOver setup state)
  pub bytes_are_the_replays : TookPrefix old.taken new.taken state.bytes
  pub none_without_entries : outcome.history.items ≡ [] → new.taken ≡ old.taken
  pub all_when_written : IsWritten outcome.status old new → new.taken ≡ append_known old.taken state.bytes
  pub status_is_the_ends : outcome.status ≢ exit.not_written → IfSome outcome.end (λ end. status end ≡ outcome.status)
  pub units_are_made : outcome.end ≡ Some UnitsSpent → state.made ≡ setup.limits.units

-- nothing was run, and nothing written
pub record IsIdle (before after : Seen) (outcome : Outcome) : Type 0 where
  pub history : outcome.history.items ≡ []
  pub end : outcome.end ≡ None
  pub printed : after.out.taken ≡ before.out.taken
  pub files : IsUntouched before after

-- the status and the detail where a file gives no program
abbrev pub load_status : LoadNo → ℕ
load_status load.NotRead = exit.not_read
load_status (load.Refused kind at) = exit.refused
load_status (load.OutOfScope kind at) = exit.refused
load_status load.Memory = exit.no_memory

abbrev pub load_detail : LoadNo → Detail
load_detail load.NotRead = Nothing
load_detail (load.Refused kind at) = refused_as kind at
load_detail (load.OutOfScope kind at) = out_of_scope kind at
load_detail load.Memory = Nothing

-- and so where two files give nothing to run; the second is read as this part
abbrev pub pair_status : PairNo → ℕ
pair_status (pair.Source error) = load_status error
pair_status pair.NotRead = exit.not_read
pair_status (pair.Refused kind line) = exit.refused

abbrev pub pair_detail : Part → PairNo → Detail
pair_detail part (pair.Source error) = load_detail error
pair_detail part pair.NotRead = Nothing
pair_detail part (pair.Refused kind line) = refused_lines part kind line

-- the end of an outcome with that status, which is left out for want of memory
abbrev pub end_unless_memory : ℕ → End → Option End
end_unless_memory s end = if s == exit.no_memory then None else Some end
