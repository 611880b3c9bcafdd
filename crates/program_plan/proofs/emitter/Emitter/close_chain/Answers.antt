use Rattle.std.proofs.Common.{◌-◌, length, arith}
use Rattle.program_plan.specs.Chains.{chain_node}
use Rattle.program_plan.proofs.Closing.{closed_begin, closed_step, closed_stop, own_default}
use Rattle.program_plan.proofs.Making.{makes_error}
use Rattle.program_plan.proofs.emitter.Emitter.close_chain.Goals as goal

pub parts-init : goal.parts-init
parts-init c = record {
  made = closed_begin (chain_node c.args.at c.args.frame.now) c.args.level c.args.parts.now (length c.args.parts.now) c.args.last c.args.self.now (omega arith);
  in_range = omega arith;
  below = c.requires.last;
  kept = omega arith;
}

pub returns-in_err-rest-clause-makes : goal.returns-in_err-rest-clause-makes
returns-in_err-rest-clause-makes c =
    makes_error _ c.from_residual-in_err-rest.ensures
    (closed_stop (chain_node c.args.at c.args.frame.now) c.args.level c.args.parts.now (c.parts.left - 1) c.args.last c.args.self.now _ c.push_chain_node.new.self _ (omega arith)
    (closed_step (chain_node c.args.at c.args.frame.now) c.args.level c.args.parts.now (c.parts.left - 1) c.parts.left c.in_ok-level.level _ c.args.last c.parts.rest _ _ _ _ (omega arith) c.in_ok-level.ensures (omega arith)
    (own_default c.args.parts.now (c.parts.left - 1) _ (omega arith)) c.parts.invariant.made c.in_err-rest.ensures.makes))

pub parts-preserved : goal.parts-preserved
parts-preserved c = record {
  made = closed_step (chain_node c.args.at c.args.frame.now) c.args.level c.args.parts.now (c.parts.left - 1) c.parts.left c.in_ok-level.level _ c.args.last c.parts.rest _ _ _ _ (omega arith) c.in_ok-level.ensures (omega arith)
      (own_default c.args.parts.now (c.parts.left - 1) _ (omega arith)) c.parts.invariant.made c.in_ok-rest.ensures.makes;
  in_range = omega arith;
  below = c.in_ok-rest.ensures.below;
  kept = omega arith;
}
