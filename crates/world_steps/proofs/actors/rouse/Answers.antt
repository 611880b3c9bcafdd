use Rattle.std.proofs.Common.{sym}
use Rattle.world_steps.proofs.Rousing.{none-ended, rests-not-ready}
use Rattle.world_steps.proofs.actors.rouse.Goals as goal

pub returns-then-can_rouse-clause-claims : goal.returns-then-can_rouse-clause-claims
returns-then-can_rouse-clause-claims c =
    none-ended c.args.units.now c.mark.new.self c.args.name.now c.claims_are_tied.ensures c.lent_are_ready.ensures (rests-not-ready c.args.units.now c.args.name.now (sym c.if-can_rouse.ensures)) c.mark.ensures.claims
