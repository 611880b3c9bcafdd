-- The trace that a run keeps.
use Rattle.std.specs.Prelude.{◌≡◌, ◌≢◌, ℕ, ◌⊎◌, List, Option, None, Some, IfSome}
use Rattle.world_io.specs.Counts.{Rose}
use Rattle.world_io.specs.Held.{told, IsHeld, IsSameBut}
use Rattle.world_io.specs.declared.files.FileItem.{FileItem}
use Rattle.serial_model.specs.Limits.{Budget}
use Rattle.serial_model.specs.Trace.{trace_text}
use Rattle.command_phases.specs.declared.outcome.Outcome.{Outcome}
use Rattle.command_phases.specs.Seen.{Seen, IsUntouched}
use Rattle.command_phases.specs.Status as exit

-- the run came to its end, and neither its bytes nor its trace failed to be written
abbrev pub IsKept : ℕ → Seen → Seen → Type 0
IsKept s before after =
    (s ≡ exit.done) ⊎ ((s ≡ exit.fault) ⊎ ((s ≡ exit.spent) ⊎ ((s ≡ exit.not_written) × (Rose before.out.faults after.out.faults → ⊥) × (Rose before.files.write_faults after.files.write_faults → ⊥))))

-- no name but that of the trace changed, and none where no trace is asked for
abbrev pub KeepsOthers : Option (List ℕ) → Option (List FileItem) → Option (List FileItem) → ℕ → ℕ → Type 0
KeepsOthers None old new before now = (new ≡ old) × (now ≡ before)
KeepsOthers (Some name) old new before now = IsSameBut name old new

-- The name of the trace holds the limits, the history and the end as a trace's text. No other name changed, and none
-- where no trace is asked for, nor where the write of the run's bytes counted a fault, nor for want of memory.
pub record KeepsTrace (limits : Budget) (trace : Option (List ℕ)) (before after : Seen) (outcome : Outcome) : Type 0 where
  pub trace_holds_the_history : IfSome trace (λ name. IsKept outcome.status before after → IfSome outcome.end (λ end.
      IsHeld (told after.files.held name) (trace_text (record { limits = limits; history = outcome.history; end = end }))))
  pub no_other_name : KeepsOthers trace before.files.held after.files.held before.files.write_faults after.files.write_faults
  pub none_after_a_fault : after.out.faults ≢ before.out.faults → IsUntouched before after
  pub none_without_memory : outcome.status ≡ exit.no_memory → IsUntouched before after
