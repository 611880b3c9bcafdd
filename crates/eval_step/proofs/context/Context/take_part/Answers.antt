use Rattle.std.proofs.Common.{get_or, sym, subst}
use Rattle.eval_step.specs.declared.context.Context.{Context}
use Rattle.eval_frames.specs.Control.{Enter}
use Rattle.eval_step.specs.Steps.{TakesPart}
use Rattle.eval_step.proofs.EnteringSteps.{takes_next_part, takes_last_part}
use Rattle.eval_step.proofs.context.Context.take_part.Goals as goal
use Rattle.eval_step.proofs.context.Context.take_part.Goals.{then-number-parts-2+in_ok-push, else-number-parts-2}

pub returns : goal.returns
returns c =
    let table = c.args.program.now in
    let old = c.args.self.now in
    let P : Context → Type 0 = λ new. TakesPart table c.args.id c.args.number old new (Enter (get_or c.parts_of-parts.result.now c.args.number (record { index = 0 }))) in
    elim c.if-number-parts-2.branch [
      | then-number-parts-2+in_ok-push w ↦
          subst P (sym w.self-is)
          (takes_next_part table old.frame old.stack c.requires.items c.args.id c.node.result.now c.parts_of-parts.result.now c.args.number (record { index = 0 }) w.push.new.self
          c.node.ensures.value c.parts_of-parts.ensures c.node.ensures.children c.requires.there w.if-number-parts-2.true w.in_ok-push.ensures)
      | else-number-parts-2 w ↦
          subst P (sym w.self-is)
          (takes_last_part table old.frame old.stack c.requires.items c.args.id c.node.result.now c.parts_of-parts.result.now c.args.number (record { index = 0 })
          c.node.ensures.value c.parts_of-parts.ensures c.node.ensures.children c.requires.there c.if-number-parts.false w.if-number-parts-2.false)
    ]
