use Rattle.task_fork_join.proofs.KeptTasks.{root_keeps}
use Rattle.task_fork_join.proofs.tree.Tree.new.Goals as goal

pub invariant_of-result : goal.invariant_of-result
invariant_of-result c = root_keeps c.args.root c.args.actor c.args.machine c.in_ok-tasks.tasks.entries c.requires.inside c.in_ok-tasks.ensures
