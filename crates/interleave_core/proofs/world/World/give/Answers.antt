use Rattle.std.proofs.Common.{◌∙◌, ap, subst, sym}
use Rattle.std.specs.Arc.{arc_value}
use Rattle.interleave_core.proofs.Worlds.{given-standing, run-here}
use Rattle.interleave_core.proofs.world.World.give.Goals as goal
use Rattle.world_steps.specs.Kept.{shared_of}
use Rattle.shared_world.specs.Shared.{Shared}
use Rattle.world_claim.specs.Run.{IsRunOf, returned_of}

pub give-requires-clause-run : goal.give-requires-clause-run
give-requires-clause-run c =
    let table = arc_value c.self.inside.kept.program in
    subst (λ p. IsRunOf (returned_of table p)) (sym c.into_parts-parts.ensures.parts)
    (run-here table c.args.done (c.requires ∙ sym (ap (λ (s : Shared). s.setup.program) c.self.view_is)) c.into_parts-parts.ensures.run)

pub invariant_of-self : goal.invariant_of-self
invariant_of-self c =
    given-standing (shared_of c.self.inside.kept) (shared_of c.give.new.kept) (returned_of (arc_value c.self.inside.kept.program) c.into_parts-parts.result) c.self.inside.done c.give.result c.self.invariant c.give.ensures.gives

pub invariant_of-self-2 : goal.invariant_of-self-2
invariant_of-self-2 c =
    given-standing (shared_of c.self.inside.kept) (shared_of c.give.new.kept) (returned_of (arc_value c.self.inside.kept.program) c.into_parts-parts.result) c.self.inside.done c.give.result c.self.invariant c.give.ensures.gives
