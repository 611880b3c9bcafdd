use Rattle.interleave_core.proofs.Worlds.{claim-standing}
use Rattle.interleave_core.proofs.world.World.claim_named.Goals as goal
use Rattle.world_steps.specs.Kept.{shared_of}

pub invariant_of-self : goal.invariant_of-self
invariant_of-self c = claim-standing (λ lent. c.args.piece.now) (shared_of c.self.inside.kept) (shared_of c.claim_named.new.kept) c.self.inside.done c.claim_named.result c.self.invariant c.claim_named.ensures.claim c.claim_named.ensures.same
