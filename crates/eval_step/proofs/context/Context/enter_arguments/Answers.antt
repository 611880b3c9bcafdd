use Rattle.std.proofs.Common.{◌∙◌, ◌++◌, ap}
use Rattle.eval_frames.specs.Finish.{hidden_of}
use Rattle.eval_step.proofs.EnteringSteps.{enters_arguments}
use Rattle.eval_step.proofs.context.Context.enter_arguments.Goals as goal

pub returns : goal.returns
returns c =
    let old = c.args.self.now in
    let which = c.node.result.now in
    enters_arguments c.args.program.now old.frame old.stack c.requires.items c.args.id which c.push_hidden.new.values c.node.ensures.value
    (c.in_ok-push_hidden.ensures ∙ ap (λ l. l ++ hidden_of old.frame which) c.clear.ensures) c.requires.there
