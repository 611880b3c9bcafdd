use Rattle.std.specs.Option.{option_copied}
use Rattle.std.specs.Prelude.{length}
use Rattle.attempts_gone.specs.Dropping.{AreLeft, names_from}
use Rattle.task_fork_join.specs.Attempt.{names_in}
use Rattle.unit_table.specs.Board.{HasPlace}
use Rattle.value_core.specs.Named.{Name}
use Rattle.attempts_gone.proofs.dropping.drop_tasks.Given as goal

abbrev pub invariant-loop-next : goal.invariant-loop-next
invariant-loop-next l = record {
  left : AreLeft (names_in l.tree.tasks) (names_from (option_copied l.next) l.tree.tasks) l.fn.units l.units;
  places : (other : Name) → HasPlace l.fn.units other → HasPlace l.units other;
}

abbrev pub decreases-loop-next : goal.decreases-loop-next
decreases-loop-next l = length (names_from (option_copied l.next) l.tree.tasks)
