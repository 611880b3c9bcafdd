use Rattle.std.proofs.Common.{ap, subst, sym}
use Rattle.task_fork_join.specs.Attempt.{Attempt, IsKept}
use Rattle.task_fork_join.proofs.KeptTasks.{ended_keeps}
use Rattle.task_fork_join.proofs.tree.Tree.end.Goals as goal

pub invariant_of-self : goal.invariant_of-self
invariant_of-self c = ended_keeps c.self.inside.root c.args.task.now c.args.moved c.self.inside.tasks.entries c.end.new.tasks.entries c.self.invariant
    (subst (IsKept c.args.task.now c.args.moved) (sym (ap (λ (a : Attempt). a.tasks) c.self.view_is)) c.requires.kept) c.end.result c.args.ended c.end.ensures
