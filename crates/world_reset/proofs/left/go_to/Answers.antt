use Rattle.std.proofs.Common.{◌+◌}
use Rattle.world_reset.proofs.left.go_to.Goals as goal
use Rattle.world_reset.proofs.Told.{gone-none, gone-then, leads-to}

pub loop-init : goal.loop-init
loop-init c = (0, gone-none c.args.program.now c.args.machine c.requires)

pub returns-then-same : goal.returns-then-same
returns-then-same c = leads-to c.args.program.now c.loop.invariant.0 c.args.machine c.loop.machine c.args.other.now c.loop.invariant.1 (c.same.ensures.0 c.if-same.true)

pub loop-preserved : goal.loop-preserved
loop-preserved c = (c.loop.invariant.0 + 1, gone-then c.args.program.now c.loop.invariant.0 1 c.args.machine c.loop.machine c.go_on.new.machine c.loop.invariant.1 c.in_ok-made.ensures)
