use Rattle.std.proofs.Common.{◌∙◌, sym, ap, length}
use Rattle.std.proofs.lemmas.Result.{IfOk-weaker}
use Rattle.eval_frames.specs.Control.{standing}
use Rattle.eval_step.proofs.Nodes.{begins_main, begins_turn, begins_plain}
use Rattle.eval_step.proofs.context.Context.begin.Goals as goal

pub returns-in_default : goal.returns-in_default
returns-in_default c =
    begins_plain c.args.program.now c.args.self.now.frame c.args.self.now.stack c.requires.empty c.args.body c.node.result.now c.node.ensures.value
    c.requires.there c.in_default.not-Main c.in_default.not-Turn

pub returns-in-Main : goal.returns-in-Main
returns-in-Main c =
    let old = c.args.self.now in
    IfOk-weaker c.take_step.result _ _ (λ next. begins_main c.args.program.now old.frame old.stack c.requires.empty c.args.body c.node.result.now c.node.ensures.value _ c.take_step.new.self (standing next c.take_step.new.registers) c.in-Main.is) c.take_step.ensures

pub returns-then-values-takes : goal.returns-then-values-takes
returns-then-values-takes c =
    begins_turn c.args.program.now c.args.self.now.frame c.args.self.now.stack c.requires.empty c.args.body c.node.result.now c.node.ensures.value
    c.in-Turn.takes c.in-Turn.inner c.in-Turn.is (sym (ap length c.values.ensures) ∙ c.if-values-takes.true) c.node.ensures.children c.requires.there
