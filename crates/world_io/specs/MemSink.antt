-- A sink in memory.
use Rattle.std.specs.Prelude.{ℕ, ◌-◌, ◌<◌, ◌≤◌, ◌⊎◌, ◌++◌, min, List, length, take, Result, Ok, Err}
use Rattle.world_io.specs.Counts.{raised}
use Rattle.world_io.specs.FailPlan.{Plan, IsListed, plan_after}
use Rattle.world_io.specs.declared.sink.Failed.{Failed}

-- the bytes taken, how many one write takes at most, how many there is room for in all, which calls fail, and how many
-- writes have failed
pub record SinkInMemory : Type 0 where
  pub taken : List ℕ
  pub at_most : ℕ
  pub room : ℕ
  pub plan : Plan
  pub faults : ℕ

-- the room is used up
abbrev pub IsFull : SinkInMemory → Type 0
IsFull sink = sink.room ≤ length sink.taken

-- the write fails: its number is listed, or there is no room for any of the piece
abbrev pub Refuses : SinkInMemory → List ℕ → Type 0
Refuses sink piece = IsListed sink.plan ⊎ (IsFull sink × (0 < length piece))

-- how many bytes of a piece of that length a write takes that does not fail
abbrev pub taken_count : SinkInMemory → ℕ → ℕ
taken_count sink len = min len (min sink.at_most (sink.room - length sink.taken))

-- the sink after a write
abbrev pub sink_after : SinkInMemory → List ℕ → Result ℕ Failed → SinkInMemory
sink_after sink piece (Ok n) = record sink { taken = sink.taken ++ take n piece; plan = plan_after sink.plan }
sink_after sink piece (Err failed) = record sink { plan = plan_after sink.plan; faults = raised sink.faults }
