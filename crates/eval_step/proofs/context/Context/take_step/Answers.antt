use Rattle.eval_step.proofs.EnteringSteps.{takes_next_step}
use Rattle.eval_step.proofs.context.Context.take_step.Goals as goal

pub returns : goal.returns
returns c =
    takes_next_step c.args.program.now c.args.self.now.frame c.args.self.now.stack c.requires.items c.args.id c.node.result.now c.steps_of-steps.result.now c.args.number _ c.push.new.self
    c.node.ensures.value c.steps_of-steps.ensures c.node.ensures.children c.requires.there c.if-number-steps.false c.in_ok-push.ensures
