-- What a sink takes of a line.
use Rattle.std.specs.Prelude.{◌≡◌, ◌≤◌, ℕ, List, Result, OnOk}
use Rattle.std.specs.Io.KnownBytes.{append_known}
use Rattle.world_io.specs.Seen.{SinkSeen}
use Rattle.world_io.specs.Taken.{CountsWrite, TookPrefix, Said}
use Rattle.world_io.specs.declared.sink.Failed.{Failed}

-- the line was written: all of it where the count of faults did not rise, and else a front of it
pub record SaysLine (line : List ℕ) (old new : SinkSeen) : Type 0 where
  pub said : Said old new line
  pub said_at_most : TookPrefix old.taken new.taken line
  pub later : old.faults ≤ new.faults

-- and where that is answered, all of it; a failure raises the count, and nothing else does
pub record WritesLine (line : List ℕ) (answer : Result Unit Failed) (old new : SinkSeen) : Type 0 where
  pub whole : OnOk answer (new.taken ≡ append_known old.taken line)
  pub prefix : TookPrefix old.taken new.taken line
  pub said : Said old new line
  pub counts : CountsWrite answer old.faults new.faults
  pub later : old.faults ≤ new.faults
