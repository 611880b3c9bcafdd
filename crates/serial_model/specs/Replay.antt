-- A history, replayed by one thread.
use Rattle.std.specs.Prelude.{◌≡◌, ℕ, List, [], ◌∷◌, Option, None, Some}
use Rattle.std.specs.Option.{option_and_then}
use Rattle.serial_model.specs.declared.entry.Entry.{Entry}
use Rattle.serial_model.specs.declared.end.End.{End}
use Rattle.serial_model.specs.declared.end.End.TheVariants.{Done, Fault, Spent, UnitsSpent}
use Rattle.serial_model.specs.State.{Setup, State, opening}
use Rattle.serial_model.specs.Step.{step}

-- the state after these entries, where each is enabled in its turn
unfoldable pub replay_from : Setup → State → List Entry → Option State
replay_from setup s [] = Some s
replay_from setup s (entry ∷ entries) = option_and_then (λ t. replay_from setup t entries) (step setup s entry)

abbrev pub replay : Setup → List Entry → Option State
replay setup entries = replay_from setup (opening setup) entries

-- A state is over where an end is set, which is its end then, or where no entry is enabled, and then the end is Done.
pub data IsOver (setup : Setup) (s : State) : End → Type 0 where
  set : {end : End} → s.end ≡ Some end → IsOver setup s end
  still : s.end ≡ None → ((entry : Entry) → step setup s entry ≡ None) → IsOver setup s Done

-- the exit status of an end
abbrev pub status : End → ℕ
status Done = 0
status (Fault code at unit) = 1
status (Spent unit) = 5
status UnitsSpent = 5
