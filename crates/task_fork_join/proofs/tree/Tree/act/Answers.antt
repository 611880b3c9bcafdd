use Rattle.std.proofs.Common.{ap, subst, sym}
use Rattle.std.proofs.lemmas.Result.{IfOk-weaker}
use Rattle.task_fork_join.specs.Attempt.{Attempt, IsKept}
use Rattle.task_fork_join.proofs.KeptTasks.{by_result, acted_keeps}
use Rattle.task_fork_join.proofs.tree.Tree.act.Goals as goal

pub invariant_of-self : goal.invariant_of-self
invariant_of-self c =
    let kept = subst (IsKept c.args.task.now c.args.moved) (sym (ap (λ (a : Attempt). a.tasks) c.self.view_is)) c.requires.kept in
    by_result c.answer.result c.self.inside.root c.self.inside.tasks.entries c.answer.new.tasks.entries
    (IfOk-weaker c.answer.result _ _ (λ found did. acted_keeps c.self.inside.root c.args.task.now c.args.moved c.self.inside.tasks.entries c.answer.new.tasks.entries c.self.invariant kept found _ c.args.request.now _ _ did) c.answer.ensures.acted)
    c.answer.ensures.same c.self.invariant
