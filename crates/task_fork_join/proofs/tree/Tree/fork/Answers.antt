use Rattle.std.proofs.Common.{ap, subst, sym}
use Rattle.std.proofs.lemmas.Result.{IfOk-weaker}
use Rattle.task_fork_join.specs.Attempt.{Attempt, IsKept}
use Rattle.task_fork_join.proofs.KeptTasks.{by_result, fork_keeps}
use Rattle.task_fork_join.proofs.tree.Tree.fork.Goals as goal

pub invariant_of-self : goal.invariant_of-self
invariant_of-self c =
    let kept = subst (IsKept c.args.task.now c.args.moved) (sym (ap (λ (a : Attempt). a.tasks) c.self.view_is)) c.requires.kept in
    by_result c.fork.result c.self.inside.root c.self.inside.tasks.entries c.fork.new.tasks.entries
    (IfOk-weaker c.fork.result _ _ (λ found did. fork_keeps c.self.inside.root c.args.task.now c.args.moved c.self.inside.tasks.entries c.fork.new.tasks.entries c.self.invariant kept found _ _ c.args.body c.args.values did) c.fork.ensures.came)
    c.fork.ensures.same c.self.invariant
