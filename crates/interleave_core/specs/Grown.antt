-- What a lock and its seats see of a world: its setup as a pair, and its history.
use Rattle.std.specs.Prelude.{◌≡◌, List, Some}
use Rattle.core_syntax.specs.Table.{Table}
use Rattle.serial_model.specs.declared.end.End.{End}
use Rattle.serial_model.specs.declared.entry.Entry.{Entry}
use Rattle.serial_model.specs.Limits.{Budget}
use Rattle.serial_model.specs.Replay.{IsOver, replay}
use Rattle.serial_model.specs.State.{Setup, State}
use Rattle.shared_world.specs.Shared.{Shared}

-- what of it is the setup, and what the history
abbrev pub setup_seen : Shared → Table × Budget
setup_seen s = (s.setup.program, s.setup.limits)

abbrev pub history_seen : Shared → List Entry
history_seen s = s.history

-- the setup of a program and limits
abbrev pub setup_of : Table × Budget → Setup
setup_of s = record { program = s.0; limits = s.1 }

-- the entries replay to a state that is over
pub record IsDone (setup : Table × Budget) (entries : List Entry) : Type 0 where
  pub state : State
  pub end : End
  pub replays : replay (setup_of setup) entries ≡ Some state
  pub over : IsOver (setup_of setup) state end
