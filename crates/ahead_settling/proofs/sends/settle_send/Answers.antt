use Rattle.std.proofs.Common.{sym}
use Rattle.ahead_settling.proofs.sends.settle_send.Goals as goal

pub settle_taken-requires-clause-taken : goal.settle_taken-requires-clause-taken
settle_taken-requires-clause-taken c = sym c.if-was_taken.ensures

pub settle_mailed-requires-clause-taken : goal.settle_mailed-requires-clause-taken
settle_mailed-requires-clause-taken c = sym c.if-was_taken.ensures

pub returns-then-was_taken : goal.returns-then-was_taken
returns-then-was_taken c = c.settle_taken.ensures c.args.args
