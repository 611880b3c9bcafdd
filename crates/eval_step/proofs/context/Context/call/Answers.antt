use Rattle.std.proofs.Common.{List, ◌∷◌, ◌∙◌, sym, ap, subst}
use Rattle.std.proofs.lemmas.Result.{IfOk-weaker}
use Rattle.value_core.specs.declared.value.Value.{Value}
use Rattle.eval_step.specs.declared.item.Item.{Item}
use Rattle.eval_step.specs.declared.item.Item.TheVariants.{Back}
use Rattle.eval_frames.specs.Control.{Enter}
use Rattle.eval_step.specs.Steps.{CallsBody}
use Rattle.eval_step.proofs.EnteringSteps.{calls_body, calls_body_last}
use Rattle.eval_step.proofs.context.Context.call.Goals as goal

pub returns-then-needs_frame : goal.returns-then-needs_frame
returns-then-needs_frame c =
    let table = c.args.program.now in
    let old = c.args.self.now in
    let callee = c.args.registers.now.values in
    let P : List Value → Type 0 = λ f. CallsBody table c.args.body callee old (record { frame = f; stack = c.push.new.self }) (Enter c.args.body) in
    let kept : List Value → List Item = λ f. Back f ∷ old.stack in
    IfOk-weaker c.push.result _ _
    (λ done pushed.
    subst P (sym c.swap.ensures.x_after)
    (calls_body table old.frame old.stack c.requires.items c.args.body callee c.push.new.self c.requires.there (sym c.if-needs_frame.ensures)
    (pushed ∙ ap kept (c.replace-outer.ensures.value ∙ c.swap.ensures.y_after))))
    c.push.ensures

pub returns : goal.returns
returns c =
    let table = c.args.program.now in
    let old = c.args.self.now in
    let callee = c.args.registers.now.values in
    let P : List Value → Type 0 = λ f. CallsBody table c.args.body callee old (record { frame = f; stack = old.stack }) (Enter c.args.body) in
    subst P (sym c.swap.ensures.x_after) (calls_body_last table old.frame old.stack c.requires.items c.args.body callee c.requires.there (sym c.if-needs_frame.ensures))
