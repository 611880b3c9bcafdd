-- What a seat has seen of a run, as a state and its bytes.
use Rattle.std.specs.Prelude.{ℕ, List, [], Option, None, Some}
use Rattle.std.specs.Option.{option_and_then}
use Rattle.core_syntax.specs.Table.{Table}
use Rattle.interleave_core.specs.Grown.{setup_of}
use Rattle.serial_model.specs.declared.entry.Entry.{Entry}
use Rattle.serial_model.specs.Limits.{Budget}
use Rattle.serial_model.specs.Replay.{replay}
use Rattle.serial_model.specs.State.{State}
use Rattle.world_lock.specs.Known.{SeatKnown}

-- the state that the history replays to which the seat has seen, under the setup of its lock
abbrev pub state_seen : SeatKnown (Table × Budget) Entry → Option State
state_seen seat = option_and_then (λ setup. replay (setup_of setup) seat.seen) seat.setup

-- the bytes of a state, where there is one
abbrev pub bytes_of : Option State → List ℕ
bytes_of None = []
bytes_of (Some state) = state.bytes

-- the bytes that the history prints which the seat has seen
abbrev pub bytes_seen : SeatKnown (Table × Budget) Entry → List ℕ
bytes_seen seat = bytes_of (state_seen seat)
