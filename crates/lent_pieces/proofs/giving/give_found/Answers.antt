use Rattle.std.proofs.Common.{refl, subst}
use Rattle.std.specs.Arc.{arc_value}
use Rattle.lent_pieces.specs.Claims.{FindsLive}
use Rattle.world_steps.specs.Kept.{shared_of}
use Rattle.shared_world.specs.Gave as gave
use Rattle.world_claim.specs.Run.{returned_of}
use Rattle.lent_pieces.proofs.giving.give_found.Goals as goal

pub give_live-requires-clause-live : goal.give_live-requires-clause-live
give_live-requires-clause-live c =
    let parts = c.args.parts in
    subst (λ o. FindsLive (shared_of c.args.kept.now) parts.ticket parts.work parts.machine o) c.in-Some.is c.requires.found (returned_of (arc_value c.args.kept.now.program) c.args.parts) (record { ticket_is = refl; work_is = refl; machine_is = refl })

pub returns-in-None : goal.returns-in-None
returns-in-None c =
    let parts = c.args.parts in
    let none = subst (λ o. FindsLive (shared_of c.args.kept.now) parts.ticket parts.work parts.machine o) c.in-None.is c.requires.found (returned_of (arc_value c.args.kept.now.program) c.args.parts) (record { ticket_is = refl; work_is = refl; machine_is = refl }) in
    record { gave = gave.stale none refl c.leave.ensures.unclaimed; stale = λ is. record { none = none; left = c.leave.ensures } }
