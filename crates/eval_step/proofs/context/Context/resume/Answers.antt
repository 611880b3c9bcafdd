use Rattle.std.proofs.Common.{◌∙◌, List, length, ap, subst}
use Rattle.std.specs.Prelude.{if◌then◌else◌}
use Rattle.std.proofs.lemmas.Result.{IfOk-weaker}
use Rattle.value_core.specs.primitives.Kinds.{is_false}
use Rattle.eval_step.specs.declared.item.Item.{Item}
use Rattle.eval_step.specs.declared.item.Item.TheVariants.{Choose}
use Rattle.eval_frames.specs.Control.{standing}
use Rattle.eval_step.specs.Steps.{TakesBound, TakesStep}
use Rattle.eval_step.specs.Walk.{ItemIn}
use Rattle.eval_step.proofs.Returns.{resumes-along, resumes_back, resumes_shrink, resumes_arguments, resumes_choose, resumes_do, resumes_let, resumes_steps}
use Rattle.eval_step.proofs.context.Context.resume.Goals as goal

pub returns-in-Back : goal.returns-in-Back
returns-in-Back c =
    let old = c.args.self.now in
    resumes-along c.args.program.now c.args.item _ c.args.registers.now.value old _ _ c.in-Back.is (resumes_back c.args.program.now old.frame old.stack c.requires.items c.args.registers.now.value c.in-Back.frame)

pub returns-in-Shrink : goal.returns-in-Shrink
returns-in-Shrink c =
    let old = c.args.self.now in
    resumes-along c.args.program.now c.args.item _ c.args.registers.now.value old _ _ c.in-Shrink.is (resumes_shrink c.args.program.now old.frame old.stack c.requires.items c.args.registers.now.value c.in-Shrink.count c.shrink.new.self c.shrink.ensures)

pub returns-in_ok-add_to-in-Arguments : goal.returns-in_ok-add_to-in-Arguments
returns-in_ok-add_to-in-Arguments c =
    let old = c.args.self.now in
    let table = c.args.program.now in
    let there = subst (ItemIn (length table.nodes)) c.in-Arguments.is c.requires.item in
    resumes-along table c.args.item _ c.args.registers.now.value old _ _ c.in-Arguments.is
    (resumes_arguments table old.frame old.stack c.requires.items c.args.registers.now.value c.in-Arguments.id c.in-Arguments.values c.add_to.new.self.values c.in-Arguments.next there
    c.in_ok-add_to-in-Arguments.ensures)

pub returns-in-Choose : goal.returns-in-Choose
returns-in-Choose c =
    let old = c.args.self.now in
    let table = c.args.program.now in
    let there = subst (ItemIn (length table.nodes)) c.in-Choose.is c.requires.item in
    resumes-along table c.args.item (Choose c.in-Choose.taken c.in-Choose.other) c.args.registers.now.value old _ _ c.in-Choose.is
    (resumes_choose table old.frame old.stack c.requires.items c.args.registers.now.value c.in-Choose.taken c.in-Choose.other c.branch-chosen.result
    (c.branch-chosen.ensures ∙ ap (λ v. if is_false v then c.in-Choose.other else c.in-Choose.taken) c.value.ensures) there.0 there.1)

pub returns-in-Do : goal.returns-in-Do
returns-in-Do c =
    let old = c.args.self.now in
    IfOk-weaker c.take_part.result _ _
    (λ next takes. resumes-along c.args.program.now c.args.item _ c.args.registers.now.value old c.take_part.new.self (standing next c.take_part.new.registers) c.in-Do.is
    (resumes_do c.args.program.now old.frame old.stack c.requires.items c.args.registers.now.value c.in-Do.id c.in-Do.next c.take_part.new.self (standing next c.take_part.new.registers) takes))
    c.take_part.ensures

pub returns-in_ok-bind-in-Let : goal.returns-in_ok-bind-in-Let
returns-in_ok-bind-in-Let c =
    let old = c.args.self.now in
    let table = c.args.program.now in
    let bound = c.bind.new.self in
    IfOk-weaker c.take_bound.result _ _
    (λ next takes.
    let stands = standing next c.take_bound.new.registers in
    let P : List Item → Type 0 = λ s. TakesBound table c.in-Let.id c.in-Let.next (record { frame = bound.frame; stack = s }) c.take_bound.new.self stands in
    resumes-along table c.args.item _ c.args.registers.now.value old c.take_bound.new.self stands c.in-Let.is
    (resumes_let table old.frame old.stack c.requires.items c.args.registers.now.value c.in-Let.id c.in-Let.next bound.frame c.take_bound.new.self stands
    c.in_ok-bind-in-Let.ensures.frame (subst P c.bind.ensures.stack takes)))
    c.take_bound.ensures

pub returns-in_ok-bind_if-in-Steps : goal.returns-in_ok-bind_if-in-Steps
returns-in_ok-bind_if-in-Steps c =
    let old = c.args.self.now in
    let table = c.args.program.now in
    let bound = c.bind_if.new.self in
    IfOk-weaker c.take_step.result _ _
    (λ next takes.
    let stands = standing next c.take_step.new.registers in
    let P : List Item → Type 0 = λ s. TakesStep table c.in-Steps.id c.in-Steps.next (record { frame = bound.frame; stack = s }) c.take_step.new.self stands in
    resumes-along table c.args.item _ c.args.registers.now.value old c.take_step.new.self stands c.in-Steps.is
    (resumes_steps table old.frame old.stack c.requires.items c.args.registers.now.value c.in-Steps.id c.in-Steps.next c.in-Steps.binds bound.frame c.take_step.new.self stands
    c.in_ok-bind_if-in-Steps.ensures.frame (subst P c.bind_if.ensures.stack takes)))
    c.take_step.ensures
