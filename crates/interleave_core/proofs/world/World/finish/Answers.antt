use Rattle.interleave_core.proofs.Worlds.{later-standing}
use Rattle.interleave_core.proofs.world.World.finish.Goals as goal
use Rattle.world_steps.specs.Kept.{shared_of}

pub invariant_of-self : goal.invariant_of-self
invariant_of-self c = later-standing (shared_of c.self.inside.kept) (shared_of c.finish.new.kept) c.self.inside.done c.self.invariant c.finish.ensures.stands c.finish.ensures.marks c.finish.ensures.few c.finish.ensures.later
