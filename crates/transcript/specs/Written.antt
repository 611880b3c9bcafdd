-- What was written while a run goes on.
use Rattle.std.specs.Prelude.{◌≡◌, ◌+◌, ◌≤◌, ⊤, ℕ, List, Option, Result, Ok, Err, Some, drop, length, take}
use Rattle.std.specs.Io.KnownBytes.{append_known}
use mathlib.Core.List.{IsPrefix}
use Rattle.core_syntax.specs.Table.{Table}
use Rattle.interleave_core.specs.Grown.{setup_of}
use Rattle.serial_model.specs.declared.entry.Entry.{Entry}
use Rattle.serial_model.specs.Limits.{Budget}
use Rattle.serial_model.specs.Replay.{replay}
use Rattle.serial_model.specs.State.{State}
use Rattle.transcript.specs.declared.live.LiveNo.{LiveNo}
use Rattle.transcript.specs.declared.live.LiveNo.TheVariants as no
use Rattle.world_io.specs.Counts.{Rose}

-- What was taken since the start are the first so many bytes that a beginning of what was seen prints.
pub record HasWritten (setup : Table × Budget) (start taken : Option (List ℕ)) (written : ℕ) (seen : List Entry) : Type 0 where
  pub used : List Entry
  pub begins : IsPrefix used seen
  pub state : State
  pub replays : replay (setup_of setup) used ≡ Some state
  pub within : written ≤ length state.bytes
  pub taken_is : taken ≡ append_known start (take written state.bytes)

-- What was taken since the start is all that was printed in what was seen.
pub record HasWrittenAll (setup : Table × Budget) (start taken : Option (List ℕ)) (written : ℕ) (seen : List Entry) : Type 0 where
  pub state : State
  pub replays : replay (setup_of setup) seen ≡ Some state
  pub written_is : written ≡ length state.bytes
  pub taken_is : taken ≡ append_known start state.bytes

-- so many bytes were printed in what was seen
pub record IsPrinted (setup : Table × Budget) (seen : List Entry) (total : ℕ) : Type 0 where
  pub state : State
  pub replays : replay (setup_of setup) seen ≡ Some state
  pub total_is : total ≡ length state.bytes

-- these are the bytes that were printed there behind the first so many
pub record IsBehind (setup : Table × Budget) (seen : List Entry) (written : ℕ) (rest : List ℕ) : Type 0 where
  pub state : State
  pub replays : replay (setup_of setup) seen ≡ Some state
  pub rest_is : rest ≡ drop written state.bytes

-- some of these bytes were taken, which are the last of so many, and are counted
pub record IsTaken (bytes : List ℕ) (total : ℕ) (old new : Option (List ℕ)) (written : ℕ) : Type 0 where
  pub count : ℕ
  pub within : count ≤ length bytes
  pub taken : new ≡ append_known old (take count bytes)
  pub counted : written + length bytes ≡ total + count

-- all of them were
pub record IsTakenWhole (bytes : List ℕ) (total : ℕ) (old new : Option (List ℕ)) (written : ℕ) : Type 0 where
  pub taken : new ≡ append_known old bytes
  pub counted : written ≡ total

-- for want of memory nothing was taken
abbrev pub IsUntaken : Result ⊤ LiveNo → Option (List ℕ) → Option (List ℕ) → ℕ → ℕ → Type 0
IsUntaken (Err no.Memory) old new was now = (new ≡ old) × (now ≡ was)
IsUntaken _ old new was now = ⊤

-- a failed write raises the count of faults, and every other answer leaves it as it was
abbrev pub CountsLive : Result ⊤ LiveNo → ℕ → ℕ → Type 0
CountsLive (Ok x) before now = now ≡ before
CountsLive (Err no.Failed) before now = Rose before now
CountsLive (Err no.Memory) before now = now ≡ before
