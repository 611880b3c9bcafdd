-- What is written at the end of a run: its trace, if one is asked for, and then what is said on standard error.
use Rattle.std.specs.Prelude.{◌≡◌, ◌≢◌, ◌≤◌, ℕ, ◌⊎◌, List, Option, IfSome, Result, IsOk, IsErr}
use Rattle.world_io.specs.Counts.{Rose}
use Rattle.world_io.specs.Held.{told, IsHeld}
use Rattle.world_io.specs.Seen.{FilesSeen, SinkSeen}
use Rattle.world_io.specs.declared.sink.Failed.{Failed}
use Rattle.serial_model.specs.Replay as model
use Rattle.serial_model.specs.Trace.{trace_text}
use Rattle.serial_model.specs.declared.trace.Trace.{Trace}
use Rattle.command_phases.specs.Outcome.{IsEnded}
use Rattle.command_phases.specs.Status as exit
use Rattle.command_phases.specs.Traced.{KeepsOthers}

-- Where the bytes of the run were written, the trace is kept, and the status is that of the end. Nothing is written where
-- they were not.
pub record EndWritten (written : Result Unit Failed) (ran : Trace) (trace : Option (List ℕ)) (before after : FilesSeen) (old new : SinkSeen) (s : ℕ) : Type 0 where
  pub status : IsEnded s ⊎ (s ≡ exit.no_memory)
  pub of_end : s ≢ exit.not_written → s ≢ exit.no_memory → model.status ran.end ≡ s
  pub holds : IsOk written → IsEnded s → (s ≡ exit.not_written → Rose before.write_faults after.write_faults → ⊥)
      → IfSome trace (λ name. IsHeld (told after.held name) (trace_text ran))
  pub others : KeepsOthers trace before.held after.held before.write_faults after.write_faults
  pub unwritten : IsErr written → (s ≡ exit.not_written) × (after.held ≡ before.held) × (after.write_faults ≡ before.write_faults)
  pub untouched : s ≡ exit.no_memory → (after.held ≡ before.held) × (after.write_faults ≡ before.write_faults)
  -- the cause of an outcome that was not written, and of each other one
  pub unfailed : s ≢ exit.not_written → s ≢ exit.no_memory → IsOk written × (new.faults ≡ old.faults) × (after.write_faults ≡ before.write_faults)
  pub fault : s ≡ exit.not_written → IsErr written ⊎ (Rose old.faults new.faults ⊎ Rose before.write_faults after.write_faults)
  -- no file is read, and no count falls
  pub reads : after.read_faults ≡ before.read_faults
  pub write_later : before.write_faults ≤ after.write_faults
  pub err_later : old.faults ≤ new.faults
