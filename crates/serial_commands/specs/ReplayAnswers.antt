-- What is owed to `replay FILE TRACE`.
use Rattle.std.specs.Prelude.{◌≡◌, ◌+◌, ℕ, ◌⊎◌, List, [], ◌∷◌, length, take, slice_get, Option, None, Some}
use Rattle.std.specs.Io.KnownBytes.{append_known}
use Rattle.world_io.specs.Counts.{Rose}
use Rattle.world_io.specs.Held.{told, IsHeld}
use Rattle.world_io.specs.Seen.{SinkSeen}
use Rattle.core_syntax.specs.Table.{Table}
use Rattle.serial_model.specs.State.{Setup, State}
use Rattle.serial_model.specs.Replay.{replay, IsOver}
use Rattle.serial_model.specs.Trace.{IsTextOfTrace, trace_refusal}
use Rattle.serial_model.specs.declared.end.End.{End}
use Rattle.serial_model.specs.declared.trace.Trace.{Trace}
use Rattle.serial_model.specs.declared.trace.LineKind.{LineKind}
use Rattle.command_phases.specs.declared.outcome.Outcome.{Outcome}
use Rattle.command_phases.specs.declared.outcome.Detail.TheVariants.{Nothing, Differs}
use Rattle.serial_commands.specs.Replayed.{IsRefusedNext, IsFound}
use Rattle.command_phases.specs.Lines.{detail_line}
use Rattle.command_phases.specs.LoadPair.{IsTraceDue}
use Rattle.command_phases.specs.Program.{IsProgramOf}
use Rattle.command_phases.specs.Outcome.{IsEnded, IsWithoutRun, IsStatusOfEnd, IsIdle, Finished, refused_trace}
use Rattle.command_phases.specs.Seen.{Seen, ReadsWell, IsCalm, IsGiven, IsUntouched}
use Rattle.command_phases.specs.SourceAnswers.{IsRefusedSource, ReadsSource, Says}
use Rattle.command_phases.specs.Status as exit

-- the program, under the limits of the trace
abbrev pub setup_of : Table → Trace → Setup
setup_of program trace = record { program = program; limits = trace.limits }

-- each entry of the trace is enabled in its turn, and the end that it states is the end that they lead to
pub record Replays (program : Table) (trace : Trace) : Type 0 where
  pub state : State
  pub each_is_enabled : replay (setup_of program trace) trace.history.items ≡ Some state
  pub end_is_stated : IsOver (setup_of program trace) state trace.end

-- The replay differs from the trace at the line after the entries that were replayed, counted in the file, whose entries
-- begin on line 3. The detail has the line, the stated end, and the end of the state before that line, where it is over.
pub record Differing (program : Table) (trace : Trace) (outcome : Outcome) : Type 0 where
  pub state : State
  pub found : Option End
  pub replayed : replay (setup_of program trace) outcome.history.items ≡ Some state
  pub refused : IsRefusedNext (setup_of program trace) state trace (slice_get trace.history.items (length outcome.history.items))
  pub detail : outcome.detail ≡ Differs (3 + length outcome.history.items) trace.end found
  pub found_is_the_end : IsFound (setup_of program trace) state found
  pub no_end : outcome.end ≡ None

-- The whole trace was replayed, to the end that it states.
pub record Agreeing (program : Table) (trace : Trace) (outcome : Outcome) : Type 0 where
  pub whole : outcome.history.items ≡ trace.history.items
  pub end : outcome.end ≡ Some trace.end
  pub replays : Replays program trace
  pub detail : outcome.detail ≡ Nothing

-- the statuses of a replay: it differs, and those of an end
abbrev pub IsReplayed : ℕ → Type 0
IsReplayed s = IsEnded s ⊎ (s ≡ exit.differs)

-- The replay of the trace on the program: the entries that were replayed are the first ones of the trace. It agrees with
-- the trace, or differs, or stopped for want of memory.
pub record ReplayOf (program : Table) (stated : Trace) (old new : SinkSeen) (outcome : Outcome) : Type 0 where
  pub statuses : IsReplayed outcome.status ⊎ (outcome.status ≡ exit.no_memory)
  pub first_entries : outcome.history.items ≡ take (length outcome.history.items) stated.history.items
  pub finished : Finished (setup_of program stated) old new outcome
  pub agrees : (outcome.status ≡ exit.done) ⊎ ((outcome.status ≡ exit.fault) ⊎ (outcome.status ≡ exit.spent)) → Agreeing program stated outcome
  pub differs : outcome.status ≡ exit.differs → Differing program stated outcome
  pub agrees_or_differs : outcome.status ≡ exit.not_written → Agreeing program stated outcome ⊎ Differing program stated outcome
  pub no_detail : outcome.status ≡ exit.no_memory → outcome.detail ≡ Nothing

-- the replay of the trace that TRACE holds, on the program that FILE holds, where it is told what they hold
pub record IsReplay (file trace : List ℕ) (before after : Seen) (outcome : Outcome) : Type 0 where
  pub bytes : List ℕ
  pub text : List ℕ
  pub program : Table
  pub stated : Trace
  pub read : IsHeld (told before.files.held file) bytes
  pub source : IsProgramOf bytes program
  pub read_trace : IsHeld (told before.files.held trace) text
  pub is_text : IsTextOfTrace stated text
  pub replay : ReplayOf program stated before.out after.out outcome

pub record ReplayAnswers (file trace : List ℕ) (before after : Seen) (outcome : Outcome) : Type 0 where
  pub statuses : IsReplayed outcome.status ⊎ (IsWithoutRun outcome.status ⊎ (outcome.status ≡ exit.no_memory))
  -- the replay
  pub replayed : IsReplayed outcome.status → IsReplay file trace before after outcome
  pub unless_memory : outcome.status ≡ exit.no_memory → IsIdle before after outcome ⊎ IsReplay file trace before after outcome
  -- the status of the end exactly where the trace replays to the end that it states, and else it differs; or there was no
  -- memory
  pub complete : (bytes text : List ℕ) (program : Table) (stated : Trace) → IsGiven file bytes before → IsProgramOf bytes program → IsGiven trace text before
      → IsTextOfTrace stated text → IsCalm before after → Replays program stated → IsStatusOfEnd outcome ⊎ (outcome.status ≡ exit.no_memory)
  pub must_differ : (bytes text : List ℕ) (program : Table) (stated : Trace) → IsGiven file bytes before → IsProgramOf bytes program → IsGiven trace text before
      → IsTextOfTrace stated text → IsCalm before after → (Replays program stated → ⊥) → (outcome.status ≡ exit.differs) ⊎ (outcome.status ≡ exit.no_memory)
  -- the causes of the other statuses
  pub reads : ReadsSource file (file ∷ trace ∷ []) before after outcome
  pub must_refuse_trace : (bytes text : List ℕ) (program : Table) (kind : LineKind) (line : ℕ) → IsGiven file bytes before → IsProgramOf bytes program
      → IsGiven trace text before → trace_refusal text kind line → ReadsWell before after
      → ((outcome.status ≡ exit.refused) × (outcome.detail ≡ refused_trace kind line)) ⊎ (outcome.status ≡ exit.no_memory)
  pub refused : outcome.status ≡ exit.refused → IsRefusedSource (told before.files.held file) outcome.detail
      ⊎ ((kind : LineKind) × (line : ℕ) × IsTraceDue (told before.files.held trace) kind line × (outcome.detail ≡ refused_trace kind line))
  pub not_written : outcome.status ≡ exit.not_written → Rose before.out.faults after.out.faults ⊎ Rose before.err.faults after.err.faults
  -- what else the outcome shows: no name changes
  pub files : IsUntouched before after
  pub idle : IsWithoutRun outcome.status → IsIdle before after outcome
  pub no_detail : (outcome.status ≡ exit.not_read) ⊎ (outcome.status ≡ exit.no_memory) → outcome.detail ≡ Nothing
  pub says : Says (file ∷ trace ∷ []) before after outcome
  -- where it differs, its line was written whole
  pub differs_said : outcome.status ≡ exit.differs → after.err.taken ≡ append_known before.err.taken (detail_line outcome.detail)
