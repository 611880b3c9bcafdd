-- How the replay of a trace comes out.
use Rattle.std.specs.Prelude.{◌≡◌, ◌↔◌, List, length, slice_get, Option, None, Some, IfSome}
use Rattle.serial_model.specs.State.{Setup, State}
use Rattle.serial_model.specs.Step.{step}
use Rattle.serial_model.specs.Replay.{replay, IsOver}
use Rattle.serial_model.specs.declared.end.End.{End}
use Rattle.serial_model.specs.declared.entry.Entry.{Entry}
use Rattle.serial_model.specs.declared.trace.Trace.{Trace}
use Rattle.serial_commands.specs.declared.replay.Replayed.{Replayed}
use Rattle.serial_commands.specs.declared.replay.Replayed.TheVariants.{Agrees, Differs}

-- the next entry of the trace is not enabled, or there is none and the stated end is not that of the state
abbrev pub IsRefusedNext : Setup → State → Trace → Option Entry → Type 0
IsRefusedNext setup state trace None = IsOver setup state trace.end → ⊥
IsRefusedNext setup state trace (Some entry) = step setup state entry ≡ None

-- this is the end of the state, and None where it is not over
abbrev pub IsFound : Setup → State → Option End → Type 0
IsFound setup state found = (end : End) → IsOver setup state end ↔ (found ≡ Some end)

-- the replay differs, and the end found is that of the state
abbrev pub FindsEnd : Setup → State → Replayed → Type 0
FindsEnd setup state Agrees = ⊥
FindsEnd setup state (Differs found) = IsFound setup state found

-- all entries are replayed, to the stated end; or these are, and the next line of the trace is refused
abbrev pub ReplaysTo : Setup → Trace → List Entry → Replayed → Type 0
ReplaysTo setup trace history Agrees = (history ≡ trace.history.items) × IfSome (replay setup history) (λ s. IsOver setup s trace.end)
ReplaysTo setup trace history (Differs found) =
    IfSome (replay setup history) (λ s. IsRefusedNext setup s trace (slice_get trace.history.items (length history)) × IsFound setup s found)
