use Rattle.interleave_core.proofs.Worlds.{opening-standing}
use Rattle.interleave_core.proofs.world.World.new.Goals as goal
use Rattle.world_steps.specs.Kept.{shared_of}

pub invariant_of-result : goal.invariant_of-result
invariant_of-result c = opening-standing _ (shared_of c.in_ok-kept.kept) c.in_ok-kept.ensures.formed c.in_ok-kept.ensures.opens
