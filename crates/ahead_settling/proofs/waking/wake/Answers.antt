use Rattle.std.proofs.Common.{sym}
use Rattle.ahead_settling.proofs.waking.wake.Goals as goal
use Rattle.ahead_settling.proofs.Wakes.{waits-not-ready, woken-put, woken-same}
use Rattle.world_steps.proofs.Rousing.{none-ended}

pub returns-then-hangs_on-clause-woken : goal.returns-then-hangs_on-clause-woken
returns-then-hangs_on-clause-woken c = woken-put c.args.turn.now c.args.task.now c.args.units.now c.mark.new.self (sym c.if-hangs_on.ensures) c.mark.ensures.marked

pub returns-then-hangs_on-clause-claims : goal.returns-then-hangs_on-clause-claims
returns-then-hangs_on-clause-claims c =
    none-ended c.args.units.now c.mark.new.self c.args.task.now c.claims_are_tied.ensures c.lent_are_ready.ensures (waits-not-ready c.args.turn.now c.args.task.now c.args.units.now (sym c.if-hangs_on.ensures)) c.mark.ensures.claims

pub returns-else-hangs_on-clause-woken : goal.returns-else-hangs_on-clause-woken
returns-else-hangs_on-clause-woken c = woken-same c.args.turn.now c.args.task.now c.args.units.now (sym c.if-hangs_on.ensures)
