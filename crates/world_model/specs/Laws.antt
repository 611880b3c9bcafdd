-- What holds of every world.
use Rattle.std.specs.Prelude.{Option}
use Rattle.serial_model.specs.State.{Setup}
use Rattle.serial_model.specs.declared.entry.Entry.{Entry}
use Rattle.world_model.specs.Gave.{Gave}
use Rattle.world_model.specs.IsWorld.{IsWorld}
use Rattle.world_model.specs.World.{World, opening_world}

-- a world that stands for the replay of its history goes on to one that does
abbrev pub GaveKeeps : Setup → Type 0
GaveKeeps setup = (w after : World) (given : Option Entry) → IsWorld setup w → Gave setup w given after → IsWorld setup after

-- the world with main alone stands for the empty history
abbrev pub OpeningStands : Setup → Type 0
OpeningStands setup = IsWorld setup (opening_world setup)
