use Rattle.interleave_core.proofs.Worlds.{abandoned-standing}
use Rattle.interleave_core.proofs.world.World.abandon.Goals as goal
use Rattle.world_steps.specs.Kept.{shared_of}

pub invariant_of-self : goal.invariant_of-self
invariant_of-self c = abandoned-standing c.args.ticket (shared_of c.self.inside.kept) (shared_of c.abandon.new.kept) c.self.inside.done c.self.invariant c.abandon.ensures
