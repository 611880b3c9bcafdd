use Rattle.run_end.proofs.Ends.{goes-then}
use Rattle.run_end.proofs.finishing.settle_all.Goals as goal
use Rattle.world_steps.specs.Kept.{shared_of}

pub returns-in_err-passed-clause-goes : goal.returns-in_err-passed-clause-goes
returns-in_err-passed-clause-goes c = goes-then (shared_of c.args.kept.now) (shared_of c.loop.kept) (shared_of c.settle_next.new.kept) c.loop.invariant.goes c.settle_next.ensures.goes

pub settle_next-requires-clause-marks : goal.settle_next-requires-clause-marks
settle_next-requires-clause-marks c = c.loop.invariant.goes.marks c.requires.marks

pub loop-preserved : goal.loop-preserved
loop-preserved c = record {
  goes = goes-then (shared_of c.args.kept.now) (shared_of c.loop.kept) (shared_of c.settle_next.new.kept) c.loop.invariant.goes c.settle_next.ensures.goes;
  walked = c.in_ok-passed.ensures.walked;
}
