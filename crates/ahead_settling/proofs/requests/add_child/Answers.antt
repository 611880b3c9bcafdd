use Rattle.ahead_settling.proofs.Lefts.{settling-still}
use Rattle.ahead_settling.proofs.First.{forked-first, forked-there, forked-waiters}
use Rattle.ahead_settling.proofs.requests.add_child.Goals as goal
use Rattle.world_steps.specs.Kept.{shared_of}

pub finish-requires-clause-settling : goal.finish-requires-clause-settling
finish-requires-clause-settling c =
    settling-still c.prepare.new.kept.history.room c.prepare.new.kept.units c.add_plain.new.units c.prepare.new.kept.attempts.entries c.prepare.new.kept.aheads.entries c.args.name.now c.in_ok-settling.settling c.add_plain.ensures.places c.in_ok-settling.ensures.settling

pub finish-requires-clause-there : goal.finish-requires-clause-there
finish-requires-clause-there c =
    forked-there (shared_of c.args.kept.now) (shared_of c.prepare.new.kept) c.args.name.now c.args.child.name c.args.child.machine c.add_plain.new.units c.requires.opened c.in_ok-settling.ensures.same c.requires.child.none c.add_plain.ensures.added

pub finish-requires-clause-waiters : goal.finish-requires-clause-waiters
finish-requires-clause-waiters c =
    forked-waiters (shared_of c.args.kept.now) (shared_of c.prepare.new.kept) c.args.name.now c.args.child.name c.args.child.machine c.add_plain.new.units c.requires.opened c.in_ok-settling.ensures.same c.add_plain.ensures.added

pub returns : goal.returns
returns c =
    let child = c.requires.child in
    forked-first (shared_of c.args.kept.now) (shared_of c.prepare.new.kept) (shared_of c.finish.new.kept) c.args.name.now c.args.child.name c.args.child.machine c.args.child.units c.add_plain.new.units c.finish.result c.requires.opened c.in_ok-settling.ensures.same
    child.none child.called child.inside child.fuel child.of child.answers child.units c.add_plain.ensures.added c.add_plain.ensures.claims c.finish.ensures.leaves c.finish.ensures.unlent c.finish.ensures.end
