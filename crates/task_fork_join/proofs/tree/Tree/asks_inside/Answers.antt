use Rattle.std.proofs.Common.{ap, subst, sym}
use Rattle.task_fork_join.specs.Attempt.{Attempt, IsKept}
use Rattle.task_fork_join.proofs.KeptTasks.{asks_inside}
use Rattle.task_fork_join.proofs.tree.Tree.asks_inside.Goals as goal

pub returns : goal.returns
returns c = asks_inside c.self.inside.root c.args.task.now c.args.moved.now c.self.inside.tasks.entries c.self.invariant
    (subst (IsKept c.args.task.now c.args.moved.now) (sym (ap (λ (a : Attempt). a.tasks) c.self.view_is)) c.requires.kept) c.args.halt.now c.requires.halts
