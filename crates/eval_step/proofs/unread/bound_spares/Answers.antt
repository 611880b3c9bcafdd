use Rattle.std.proofs.Common.{◌∙◌, ◌≤◌, List, length, ap, subst}
use Rattle.std.specs.Prelude.{Some}
use Rattle.core_syntax.specs.declared.node_id.NodeId.{NodeId}
use Rattle.eval_step.proofs.Spared.{let-spares}
use Rattle.eval_step.proofs.unread.bound_spares.Goals as goal

pub returns-in-Let : goal.returns-in-Let
returns-in-Let c = λ some.
    let-spares c.args.program.now c.args.place c.args.id c.in-Let.bound c.in-Let.field-1 c.args.number (c.node.ensures.value ∙ ap (λ n. Some n) c.in-Let.is)
    (subst (λ (l : List NodeId). c.args.number ≤ length l) c.items.ensures c.if-number-items.true) (c.spares.ensures.spares some)
