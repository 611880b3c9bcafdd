use Rattle.std.proofs.Common.{List, sym, subst}
use Rattle.std.proofs.lemmas.Result.{IfOk-weaker}
use Rattle.value_core.specs.declared.value.Value.{Value}
use Rattle.eval_frames.specs.Control.{Enter, standing}
use Rattle.eval_step.specs.Steps.{Enters}
use Rattle.eval_step.specs.Resume.{run}
use Rattle.eval_step.proofs.Nodes.{enters_do, enters_if, enters_let, enters_others, enters_local, level-plain}
use Rattle.eval_step.proofs.context.Context.enter.Goals as goal

pub returns-in-Do : goal.returns-in-Do
returns-in-Do c =
    let old = c.args.self.now in
    IfOk-weaker c.take_part.result _ _
    (λ next. enters_do c.args.program.now c.args.inside old.frame old.stack c.requires.items c.args.id c.node.result.now c.node.ensures.value _ c.take_part.new.self (standing next c.take_part.new.registers) c.in-Do.is)
    c.take_part.ensures

pub returns-in_ok-choose_behind-in-If : goal.returns-in_ok-choose_behind-in-If
returns-in_ok-choose_behind-in-If c =
    let old = c.args.self.now in
    let P : List Value → Type 0 = λ frame. Enters c.args.program.now c.args.inside c.args.id old (record { frame = frame; stack = c.choose_behind.new.self.stack }) (Enter c.in-If.condition) in
    subst P (sym c.choose_behind.ensures.frame)
    (enters_if c.args.program.now c.args.inside old.frame old.stack c.requires.items c.args.id c.node.result.now c.node.ensures.value c.in-If.condition c.in-If.taken c.in-If.other c.choose_behind.new.self.stack
    c.in-If.is c.node.ensures.children c.requires.there c.in_ok-choose_behind-in-If.ensures.stack)

pub returns-in-Let : goal.returns-in-Let
returns-in-Let c =
    let old = c.args.self.now in
    IfOk-weaker c.take_bound.result _ _
    (λ next. enters_let c.args.program.now c.args.inside old.frame old.stack c.requires.items c.args.id c.node.result.now c.node.ensures.value _ _ c.take_bound.new.self (standing next c.take_bound.new.registers) c.in-Let.is)
    c.take_bound.ensures

pub returns-in_default : goal.returns-in_default
returns-in_default c =
    let old = c.args.self.now in
    let table = c.args.program.now in
    let inside = c.args.inside in
    IfOk-weaker c.enter_arguments.result _ _
    (λ next. enters_others table inside old.frame old.stack c.requires.items c.args.id c.node.result.now c.node.ensures.value c.enter_arguments.new.self (standing next c.enter_arguments.new.registers)
    (λ at fuel answers. level-plain table inside (run table inside) old.frame c.node.result.now at fuel answers c.in_default.not-Do c.in_default.not-If c.in_default.not-Let c.in_default.not-Dosync))
    c.enter_arguments.ensures

pub returns-in_ok-read-in-Local : goal.returns-in_ok-read-in-Local
returns-in_ok-read-in-Local c =
    let old = c.args.self.now in
    enters_local c.args.program.now c.args.inside old.frame old.stack c.requires.items c.args.id c.node.result.now c.node.ensures.value c.in-Local.place c.read.new.registers.value c.read.new.self
    c.in-Local.is c.in_ok-read-in-Local.ensures.value c.in_ok-read-in-Local.ensures.alike
