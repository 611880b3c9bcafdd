use Rattle.std.proofs.Common.{subst}
use Rattle.std.specs.Arc.{arc_value}
use Rattle.lent_pieces.proofs.giving.give.Goals as goal
use Rattle.lent_pieces.specs.Doomed.{FindsDoomed}
use Rattle.world_claim.specs.Run.{returned_of}
use Rattle.world_steps.specs.Kept.{shared_of}

pub give_doomed-requires-clause-doomed : goal.give_doomed-requires-clause-doomed
give_doomed-requires-clause-doomed c = subst (FindsDoomed (shared_of c.args.kept.now) (returned_of (arc_value c.args.kept.now.program) c.args.parts)) c.in-Some.is c.doomed.ensures

pub returns-in-None-clause-aborts : goal.returns-in-None-clause-aborts
returns-in-None-clause-aborts c =
    let none = subst (FindsDoomed (shared_of c.args.kept.now) (returned_of (arc_value c.args.kept.now.program) c.args.parts)) c.in-None.is c.doomed.ensures in
    λ to. absurd (none to.conflict to.doomed)
