use Rattle.interleave_core.proofs.Worlds.{claim-standing}
use Rattle.interleave_core.proofs.world.World.claim.Goals as goal
use Rattle.world_steps.specs.Kept.{shared_of}
use Rattle.world_claim.specs.Lent.{Lent}

pub invariant_of-self : goal.invariant_of-self
invariant_of-self c =
    claim-standing (λ (lent : Lent). lent.piece) (shared_of c.self.inside.kept) (shared_of c.claim_any.new.kept) c.self.inside.done c.claim_any.result c.self.invariant c.claim_any.ensures.claim c.claim_any.ensures.same
