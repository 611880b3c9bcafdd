use Rattle.std.proofs.Common.{arith}
use Rattle.resolved_forms.proofs.Hiding.{plain_step}
use Rattle.resolved_forms.proofs.units.plain.Goals as goal

pub loop-unit-preserved : goal.loop-unit-preserved
loop-unit-preserved c = record {
  within = omega arith;
  left = plain_step c.args.reached.now c.loop-unit.unit c.args.end c.loop-unit.hidden c.push_hidden.new.hidden _ (omega arith) c.in_ok-push_hidden.ensures c.loop-unit.invariant.left;
}
