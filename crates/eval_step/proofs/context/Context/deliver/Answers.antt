use Rattle.std.proofs.Common.{◌∙◌, length, sym, subst}
use Rattle.std.specs.Prelude.{All}
use Rattle.std.proofs.lemmas.List.Elements.{All-tail}
use Rattle.std.proofs.lemmas.Result.{IfOk-weaker}
use Rattle.eval_frames.specs.Control.{Control, standing}
use Rattle.eval_step.specs.Steps.{Delivers}
use Rattle.eval_step.specs.Walk.{ItemIn}
use Rattle.eval_step.proofs.Returns.{delivers_item, delivers_last}
use Rattle.eval_step.proofs.context.Context.deliver.Goals as goal

pub resume-requires-clause-items : goal.resume-requires-clause-items
resume-requires-clause-items c =
    let P = ItemIn (length c.args.program.now.nodes) in
    All-tail P c.in-Some.item c.pop.new.self (subst (All P) (sym c.in_ok-is_there.ensures.same ∙ c.in-Some.ensures) c.requires)

pub returns-in-Some : goal.returns-in-Some
returns-in-Some c =
    let old = c.args.self.now in
    IfOk-weaker c.resume.result _ _
    (λ next. delivers_item c.args.program.now old.frame old.stack c.pop.new.self c.in-Some.item c.args.registers.now.value c.resume.new.self (standing next c.resume.new.registers) (sym c.in_ok-is_there.ensures.same ∙ c.in-Some.ensures))
    c.resume.ensures

pub returns-then-not-is_there : goal.returns-then-not-is_there
returns-then-not-is_there c =
    let old = c.args.self.now in
    let v = c.args.registers.now.value in
    let empty = c.in_ok-is_there.ensures.none c.if-not-is_there.true in
    let P : Control → Type 0 = Delivers c.args.program.now v old (record { frame = c.free.new.self; stack = c.fetch.new.self }) in
    subst P (sym c.finish.ensures) (delivers_last c.args.program.now old.frame c.free.new.self old.stack v c.fetch.new.self (sym c.in_ok-is_there.ensures.same ∙ empty) empty)
