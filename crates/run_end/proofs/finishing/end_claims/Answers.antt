use Rattle.std.proofs.Common.{subst}
use Rattle.run_end.proofs.Ends.{ending-then, none-behind, passed-one}
use Rattle.run_end.proofs.finishing.end_claims.Goals as goal
use Rattle.world_reset.specs.Plan.{IsNextOr}

pub returns-in-None-clause-none : goal.returns-in-None-clause-none
returns-in-None-clause-none c = none-behind c.loop.passed c.loop.units (subst (IsNextOr c.loop.units c.loop.passed) c.in-None.is c.in_ok-name.ensures) c.lent_are_ready.ensures c.loop.invariant.after

pub loop-preserved : goal.loop-preserved
loop-preserved c = record {
  ending = ending-then c.args.units.now c.loop.units c.end_claim.new.units c.in-Some.name c.loop.invariant.ending c.end_claim.ensures;
  after = passed-one c.loop.passed c.in-Some.name c.loop.units c.end_claim.new.units (subst (IsNextOr c.loop.units c.loop.passed) c.in-Some.is c.in_ok-name.ensures) c.lent_are_ready.ensures c.end_claim.ensures
      c.loop.invariant.after;
}
