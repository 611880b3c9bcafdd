use Rattle.std.proofs.Common.{◌≡◌}
use Rattle.task_fork_join.proofs.Closes.{HasPassed}
use Rattle.task_fork_join.proofs.closing.close_children.Given as goal

abbrev pub invariant-loop-number : goal.invariant-loop-number
invariant-loop-number l = record { end : l.number-end ≡ l.fn.parts.log.log.made; passed : HasPassed l.tasks.entries l.from l.fn.parts l.number l.parts }
