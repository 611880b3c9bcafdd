use Rattle.ahead_settling.proofs.Lefts.{settling-still}
use Rattle.std.proofs.Common.{◌≡◌, ap, subst}
use Rattle.ahead_settling.proofs.Sending.{taken-first, taken-there, taken-waiters}
use Rattle.ahead_settling.proofs.sends.settle_taken.Goals as goal
use Rattle.value_core.specs.Placed.{filled}
use Rattle.world_steps.specs.Kept.{shared_of}

pub finish-requires-clause-settling : goal.finish-requires-clause-settling
finish-requires-clause-settling c =
    settling-still c.prepare.new.kept.history.room c.prepare.new.kept.units c.settle_now.new.units c.prepare.new.kept.attempts.entries c.prepare.new.kept.aheads.entries c.args.name.now c.in_ok-settling.settling c.settle_now.ensures.places c.in_ok-settling.ensures.settling

pub finish-requires-clause-there : goal.finish-requires-clause-there
finish-requires-clause-there c = taken-there (shared_of c.args.kept.now) (shared_of c.prepare.new.kept) c.args.name.now c.in_ok-turn.turn c.settle_now.new.units c.requires.opened c.in_ok-settling.ensures.same c.settle_now.ensures.settles

pub finish-requires-clause-waiters : goal.finish-requires-clause-waiters
finish-requires-clause-waiters c = taken-waiters (shared_of c.args.kept.now) (shared_of c.prepare.new.kept) c.args.name.now c.in_ok-turn.turn c.settle_now.new.units c.requires.opened c.in_ok-settling.ensures.same c.settle_now.ensures.settles

pub returns : goal.returns
returns c args =
    taken-first (shared_of c.args.kept.now) (shared_of c.prepare.new.kept) (shared_of c.finish.new.kept) c.args.name.now c.args.to.now c.in_ok-turn.turn args (filled c.make_definite.new.taken) c.settle_now.new.units c.finish.result c.requires.opened c.in_ok-settling.ensures.same
    c.in_ok-turn.ensures c.requires.taken c.make_definite.ensures c.settle_now.ensures.settles c.settle_now.ensures.claims c.finish.ensures.leaves c.finish.ensures.unlent c.finish.ensures.end
