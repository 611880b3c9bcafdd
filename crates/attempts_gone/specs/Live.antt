-- The snapshots of the attempts.
use Rattle.std.specs.Prelude.{ℕ, List, [], ◌∷◌}
use Rattle.task_fork_join.specs.Attempt.{Attempt}
use Rattle.value_core.specs.Named.{Named}

-- the snapshot of each of them
abbrev pub snapshots_in : Named Attempt → List ℕ
snapshots_in [] = []
snapshots_in (e ∷ es) = e.1.snapshot ∷ snapshots_in es
