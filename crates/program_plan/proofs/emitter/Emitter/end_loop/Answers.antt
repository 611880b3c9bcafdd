use Rattle.std.proofs.Common.{arith}
use Rattle.std.proofs.lemmas.List.Elements.{All-push}
use Rattle.core_syntax.specs.WellFormed.{IsBelow}
use Rattle.program_plan.specs.Emitted.{local}
use Rattle.program_plan.proofs.Children.{All-below}
use Rattle.program_plan.proofs.Making.{makes_then, makes_stop, makes_error, makes_call}
use Rattle.program_plan.proofs.Each.{makes_arguments}
use Rattle.program_plan.proofs.emitter.Emitter.end_loop.Goals as goal

pub returns-in_err-arguments-clause-makes : goal.returns-in_err-arguments-clause-makes
returns-in_err-arguments-clause-makes c =
    makes_error _ c.from_residual.ensures (makes_stop _ _ (makes_arguments (local c.args.at) c.args.frame.now _ _ c.items.ensures c.in_err-arguments.ensures.makes))

pub returns-in_err-call-clause-makes : goal.returns-in_err-call-clause-makes
returns-in_err-call-clause-makes c =
    makes_then _ (makes_arguments (local c.args.at) c.args.frame.now _ _ c.items.ensures c.in_ok-arguments.ensures.makes)
    (makes_error _ c.from_residual-in_err-call.ensures (makes_stop _ _
    (makes_call c.args.at c.args.looping.now.number _ _ _ _ _ _ c.in_ok-hidden.ensures c.in_err-call.ensures.makes)))

pub push-requires-2-clause-children : goal.push-requires-2-clause-children
push-requires-2-clause-children c =
    All-push (IsBelow _) c.args.values c.in_ok-call.call (All-below _ _ _ (omega arith) c.requires) c.in_ok-call.ensures.below

pub returns-clause-makes : goal.returns-clause-makes
returns-clause-makes c =
    makes_then _ (makes_arguments (local c.args.at) c.args.frame.now _ _ c.items.ensures c.in_ok-arguments.ensures.makes)
    (makes_then _ (makes_call c.args.at c.args.looping.now.number _ _ _ _ _ _ c.in_ok-hidden.ensures c.in_ok-call.ensures.makes)
    c.push-2.ensures.makes)
