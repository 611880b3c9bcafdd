-- What is written in full.
use Rattle.std.specs.Prelude.{◌≡◌, ℕ, ◌⊎◌}
use Rattle.world_io.specs.Counts.{Rose}
use Rattle.world_io.specs.Seen.{SinkSeen}
use Rattle.command_phases.specs.Status as exit

-- all bytes are written: the command came to its end, and writing them counted no fault
abbrev pub IsWritten : ℕ → SinkSeen → SinkSeen → Type 0
IsWritten s old new =
    (s ≡ exit.done) ⊎ ((s ≡ exit.fault) ⊎ ((s ≡ exit.spent) ⊎ ((s ≡ exit.differs) ⊎ ((s ≡ exit.not_written) × (Rose old.faults new.faults → ⊥)))))
