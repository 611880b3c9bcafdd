use Rattle.std.proofs.Common.{sym}
use Rattle.message_settling.proofs.Definite.{settles-claims, settles-put, settles-same}
use Rattle.message_settling.proofs.turns.settle_now.Goals as goal

pub returns-then-must_settle-clause-settles : goal.returns-then-must_settle-clause-settles
returns-then-must_settle-clause-settles c = settles-put c.args.units.now c.mark.new.self c.args.turn.now (sym c.if-must_settle.ensures) c.mark.ensures.marked

pub returns-then-must_settle-clause-claims : goal.returns-then-must_settle-clause-claims
returns-then-must_settle-clause-claims c = settles-claims c.args.units.now c.mark.new.self c.args.turn.now c.claims_are_tied.ensures c.lent_are_ready.ensures (sym c.if-must_settle.ensures) c.mark.ensures.claims

pub returns-else-must_settle-clause-settles : goal.returns-else-must_settle-clause-settles
returns-else-must_settle-clause-settles c = settles-same c.args.units.now c.args.turn.now (sym c.if-must_settle.ensures)
