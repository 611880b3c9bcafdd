use Rattle.std.proofs.Common.{subst}
use Rattle.unit_table.specs.Board.{IsMarked}
use Rattle.ahead_settling.proofs.leaving.mark_left.Goals as goal
use Rattle.ahead_settling.proofs.Lefts.{can-wait, piece-there}

pub mark-requires-clause-there : goal.mark-requires-clause-there
mark-requires-clause-there c = piece-there c.args.units.now c.args.name.now c.requires.there

pub mark-requires-clause-can_wait : goal.mark-requires-clause-can_wait
mark-requires-clause-can_wait c = can-wait c.args.units.now c.args.still.leads c.args.root c.args.still.waits c.mark_after.result c.mark_after.ensures c.requires.place

pub returns-clause-marked : goal.returns-clause-marked
returns-clause-marked c = subst (λ m. IsMarked c.args.name.now m c.args.units.now c.mark.new.self) c.mark_after.ensures c.mark.ensures.marked
