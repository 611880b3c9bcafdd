use Rattle.std.proofs.Common.{sym, subst}
use Rattle.eval_step.specs.declared.context.Context.{Context}
use Rattle.eval_frames.specs.Control.{Enter}
use Rattle.eval_step.specs.Steps.{TakesBound}
use Rattle.eval_step.proofs.EnteringSteps.{takes_next_bound, takes_body, takes_body_last}
use Rattle.eval_step.proofs.context.Context.take_bound.Goals as goal
use Rattle.eval_step.proofs.context.Context.take_bound.Goals.{then-needs_frame+in_ok-push-2, else-needs_frame}

pub returns-then-number-bound : goal.returns-then-number-bound
returns-then-number-bound c =
    takes_next_bound c.args.program.now c.args.self.now.frame c.args.self.now.stack c.requires.items c.args.id c.node.result.now _ c.in-Let.body c.items-bound.result.now c.args.number _ c.push.new.self
    c.node.ensures.value c.in-Let.is c.items-bound.ensures c.node.ensures.children c.requires.there c.if-number-bound.true c.in_ok-push.ensures

pub returns : goal.returns
returns c =
    let table = c.args.program.now in
    let old = c.args.self.now in
    let P : Context → Type 0 = λ new. TakesBound table c.args.id c.args.number old new (Enter c.in-Let.body) in
    elim c.if-needs_frame.branch [
      | then-needs_frame+in_ok-push-2 w ↦
          subst P (sym w.self-is)
          (takes_body table old.frame old.stack c.requires.items c.args.id c.node.result.now _ c.in-Let.body c.items-bound.result.now c.args.number w.push-then-needs_frame.new.self
          c.node.ensures.value c.in-Let.is c.items-bound.ensures c.node.ensures.children c.requires.there c.if-number-bound.false w.in_ok-push-2.ensures)
      | else-needs_frame w ↦
          subst P (sym w.self-is)
          (takes_body_last table old.frame old.stack c.requires.items c.args.id c.node.result.now _ c.in-Let.body c.items-bound.result.now c.args.number
          c.node.ensures.value c.in-Let.is c.items-bound.ensures c.node.ensures.children c.requires.there c.if-number-bound.false (sym w.if-needs_frame.ensures))
    ]
