-- A trace that is kept where the bytes before it were written.
use Rattle.std.specs.Prelude.{◌≡◌, ◌≤◌, ℕ, ◌⊎◌, List, Option, IfSome, Result, IsOk, IsErr, IsErrOf, OnOk}
use Rattle.world_io.specs.Counts.{Rose}
use Rattle.world_io.specs.Held.{told, IsHeld}
use Rattle.world_io.specs.Seen.{FilesSeen}
use Rattle.world_io.specs.declared.files.WriteNo.{WriteNo}
use Rattle.world_io.specs.declared.files.WriteNo.TheVariants as no
use Rattle.world_io.specs.declared.sink.Failed.{Failed}
use Rattle.serial_model.specs.Trace.{trace_text}
use Rattle.serial_model.specs.declared.trace.Trace.{Trace}
use Rattle.command_phases.specs.Traced.{KeepsOthers}

-- The trace is kept, if one is asked for, and no write failed; or one failed, of the bytes before it or its own; or there was no
-- memory for its text, and no file has changed. Where the bytes before it were not written no file has changed either.
pub record KeepsAfter (written : Result Unit Failed) (ran : Trace) (trace : Option (List ℕ)) (before after : FilesSeen) (answer : Result Unit WriteNo) : Type 0 where
  pub kept : OnOk answer (IsOk written × IfSome trace (λ name. IsHeld (told after.held name) (trace_text ran)) × (after.write_faults ≡ before.write_faults))
  pub failed : IsErrOf answer no.Failed → IsErr written ⊎ Rose before.write_faults after.write_faults
  pub unwritten : IsErr written → IsErrOf answer no.Failed × (after.held ≡ before.held) × (after.write_faults ≡ before.write_faults)
  pub memory : IsErrOf answer no.Memory → (after.held ≡ before.held) × (after.write_faults ≡ before.write_faults)
  pub others : KeepsOthers trace before.held after.held before.write_faults after.write_faults
  pub reads : after.read_faults ≡ before.read_faults
  pub later : before.write_faults ≤ after.write_faults
