use Rattle.ahead_settling.proofs.First.{there-again, told-first, waiters-again}
use Rattle.ahead_settling.proofs.requests.settle_alone.Goals as goal
use Rattle.world_steps.specs.Kept.{shared_of}

pub finish-requires-clause-there : goal.finish-requires-clause-there
finish-requires-clause-there c = there-again (shared_of c.args.kept.now) (shared_of c.prepare.new.kept) c.args.name.now c.requires.opened c.in_ok-settling.ensures.same

pub finish-requires-clause-waiters : goal.finish-requires-clause-waiters
finish-requires-clause-waiters c = waiters-again (shared_of c.args.kept.now) (shared_of c.prepare.new.kept) c.args.name.now c.requires.opened c.in_ok-settling.ensures.same

pub returns : goal.returns
returns c request told =
    told-first (shared_of c.args.kept.now) (shared_of c.prepare.new.kept) (shared_of c.finish.new.kept) c.args.name.now request c.finish.result c.requires.opened c.in_ok-settling.ensures.same told c.finish.ensures.leaves c.finish.ensures.unlent c.finish.ensures.end
