use Rattle.std.proofs.Common.{refl}
use Rattle.std.proofs.lemmas.Result.{IfOk-weaker}
use Rattle.core_syntax.specs.declared.node.Node.TheVariants.{Dosync}
use Rattle.eval_frames.specs.Control.{standing}
use Rattle.eval_step.specs.Resume.{run}
use Rattle.eval_step.proofs.Nodes.{enters_inside, enters_others, level-outside}
use Rattle.eval_step.proofs.context.Context.enter_transaction.Goals as goal

pub returns-then-inside : goal.returns-then-inside
returns-then-inside c =
    let old = c.args.self.now in
    enters_inside c.args.program.now c.args.inside old.frame old.stack c.requires.items c.args.id (Dosync c.args.body) c.requires.transaction c.args.body refl c.if-inside.true c.requires.body

pub returns : goal.returns
returns c =
    let old = c.args.self.now in
    let table = c.args.program.now in
    IfOk-weaker c.enter_arguments.result _ _
    (λ next. enters_others table c.args.inside old.frame old.stack c.requires.items c.args.id (Dosync c.args.body) c.requires.transaction c.enter_arguments.new.self (standing next c.enter_arguments.new.registers)
    (λ at fuel answers. level-outside table c.args.inside (run table c.args.inside) old.frame (Dosync c.args.body) c.args.body at fuel answers refl c.if-inside.false))
    c.enter_arguments.ensures
