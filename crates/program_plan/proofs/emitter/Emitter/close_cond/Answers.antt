use Rattle.std.proofs.Common.{◌+◌, ◌-◌, ◌*◌, ◌/◌, length, refl, arith}
use Rattle.program_plan.proofs.Closing.{cond_begin, cond_step, cond_stop, own_default}
use Rattle.program_plan.proofs.Making.{makes_error}
use Rattle.program_plan.proofs.emitter.Emitter.close_cond.Goals as goal

pub pairs-init : goal.pairs-init
pairs-init c = record {
  made = cond_begin c.args.at c.args.ids.now (length c.args.ids.now / 2) c.args.last c.args.self.now refl;
  in_range = omega arith;
  below = c.requires.last;
  kept = omega arith;
}

pub returns-in_err-others-clause-makes : goal.returns-in_err-others-clause-makes
returns-in_err-others-clause-makes c =
    makes_error _ c.from_residual.ensures
    (cond_stop c.args.at c.args.ids.now (c.pairs.left - 1) c.args.last c.args.self.now _ _ (omega arith)
    (cond_step c.args.at c.args.ids.now (c.pairs.left - 1) c.pairs.left _ _ c.args.last c.pairs.others _ _ _ _ (omega arith) (omega arith)
    (own_default c.args.ids.now (2 * (c.pairs.left - 1)) _ (omega arith)) (own_default c.args.ids.now (2 * (c.pairs.left - 1) + 1) _ (omega arith)) c.pairs.invariant.made c.in_err-others.ensures.makes))

pub pairs-preserved : goal.pairs-preserved
pairs-preserved c = record {
  made = cond_step c.args.at c.args.ids.now (c.pairs.left - 1) c.pairs.left _ _ c.args.last c.pairs.others _ _ _ _ (omega arith) (omega arith)
      (own_default c.args.ids.now (2 * (c.pairs.left - 1)) _ (omega arith)) (own_default c.args.ids.now (2 * (c.pairs.left - 1) + 1) _ (omega arith)) c.pairs.invariant.made c.in_ok-others.ensures.makes;
  in_range = omega arith;
  below = c.in_ok-others.ensures.below;
  kept = omega arith;
}
