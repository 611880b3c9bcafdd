use Rattle.ahead_settling.proofs.Lefts.{place-still}
use Rattle.ahead_settling.proofs.Begun.{begun-so, begun-there, begun-waiters}
use Rattle.ahead_settling.proofs.beginning.begin_turn.Goals as goal
use Rattle.turns_ahead.specs.Leading.{ahead_of}
use Rattle.value_core.specs.Named.{each_as}
use Rattle.value_core.specs.Placed.{filled}
use Rattle.world_steps.specs.Kept.{shared_of}

pub leave_turn-requires-clause-place : goal.leave_turn-requires-clause-place
leave_turn-requires-clause-place c = place-still c.args.kept.now.units c.set_actor.new.self c.args.leave.root c.set_actor.ensures.places c.requires.leave.place

pub leave_turn-requires-clause-there : goal.leave_turn-requires-clause-there
leave_turn-requires-clause-there c =
    begun-there (shared_of c.args.kept.now) c.args.name.now c.args.actor.now c.args.leave.marks.entry c.args.busy.state c.set_actor.new.self c.requires.opened c.requires.marks c.requires.entry c.requires.next c.set_actor.ensures.set

pub leave_turn-requires-clause-waiters : goal.leave_turn-requires-clause-waiters
leave_turn-requires-clause-waiters c =
    begun-waiters (shared_of c.args.kept.now) c.args.name.now c.args.actor.now c.args.leave.marks.entry c.args.busy.state c.set_actor.new.self c.requires.opened c.requires.marks c.requires.entry c.requires.next c.set_actor.ensures.set

pub returns : goal.returns
returns c =
    begun-so (shared_of c.args.kept.now) (shared_of c.leave_turn.new.kept) c.args.name.now c.args.actor.now c.args.busy.state c.set_actor.new.self (filled c.take.new.self) c.args.busy.units (each_as ahead_of c.settle_take-still.new.aheads.entries) c.args.leave.marks.entry c.settle_take-still.result
    c.leave_turn.result c.requires.opened c.requires.marks c.requires.entry c.requires.next c.requires.units c.set_actor.ensures.set c.set_actor.ensures.claims c.take.ensures.shows c.settle_take-still.ensures c.leave_turn.ensures.leaves c.leave_turn.ensures.unlent c.leave_turn.ensures.end
