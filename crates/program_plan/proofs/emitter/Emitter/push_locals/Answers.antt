use Rattle.std.proofs.Common.{arith}
use Rattle.program_plan.specs.Emitted.{Emitting, local}
use Rattle.program_plan.proofs.Children.{All-below_push}
use Rattle.program_plan.proofs.Closing.{own_default}
use Rattle.program_plan.proofs.Each.{gathered_step, gathered_stop, gathered_done}
use Rattle.program_plan.proofs.Making.{makes_error}
use Rattle.program_plan.proofs.emitter.Emitter.push_locals.Goals as goal

pub returns-in_err-id-clause-makes : goal.returns-in_err-id-clause-makes
returns-in_err-id-clause-makes c =
    makes_error _ c.from_residual.ensures (c.loop-level.invariant.left _ _ (gathered_stop (λ number (part : Emitting). part c.args.frame.now) (local c.args.at) 0 c.args.levels.now c.loop-level.level-index _ _ _ _ _ _ c.loop-level-test.true
    (own_default c.args.levels.now c.loop-level.level-index _ c.loop-level-test.true) c.in_err-id.ensures.makes))

pub loop-level-preserved : goal.loop-level-preserved
loop-level-preserved c = record {
  left = λ r u makes. c.loop-level.invariant.left r u
      (gathered_step (λ number (part : Emitting). part c.args.frame.now) (local c.args.at) 0 c.args.levels.now c.loop-level.level-index _ _ _ _ _ _ u r c.loop-level-test.true
      (own_default c.args.levels.now c.loop-level.level-index _ c.loop-level-test.true) c.in_ok-add.ensures.ok c.in_ok-id.ensures.makes makes);
  below = All-below_push _ _ _ _ _ c.in_ok-add.ensures.ok c.in_ok-id.ensures.kept c.loop-level.invariant.below c.in_ok-id.ensures.below;
  kept = omega arith;
}

pub returns-clause-makes : goal.returns-clause-makes
returns-clause-makes c = c.loop-level.invariant.left _ _ (gathered_done (λ number (part : Emitting). part c.args.frame.now) (local c.args.at) 0 c.args.levels.now c.loop-level.level-index _ _ c.loop-level-test.false)
