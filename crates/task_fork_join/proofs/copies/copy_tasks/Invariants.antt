use Rattle.std.proofs.Common.{◌≡◌}
use Rattle.value_core.specs.Named.{over}
use Rattle.task_fork_join.proofs.copies.copy_tasks.Given as goal

abbrev pub invariant-loop-name : goal.invariant-loop-name
invariant-loop-name l = over l.name-iterator l.copied.entries ≡ l.tasks.entries
