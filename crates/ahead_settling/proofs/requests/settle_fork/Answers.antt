use Rattle.std.proofs.Common.{◌≡◌, rules, subst, sym}
use Rattle.ahead_settling.proofs.First.{child-again, forks-came, forks-full, open-again}
use Rattle.ahead_settling.proofs.requests.settle_fork.Goals as goal
use Rattle.world_steps.specs.Kept.{shared_of}

pub returns-then-kept-units : goal.returns-then-kept-units
returns-then-kept-units c = forks-full (shared_of c.args.kept.now) (shared_of c.end_units.new.kept) c.args.name.now c.args.body c.args.values c.end_units.result (search rules) c.end_units.ensures

pub add_child-requires-clause-opened : goal.add_child-requires-clause-opened
add_child-requires-clause-opened c = open-again (shared_of c.args.kept.now) (shared_of c.child_of.new.kept) c.args.name.now c.in_ok-child.ensures.same c.requires.opened

pub add_child-requires-clause-child : goal.add_child-requires-clause-child
add_child-requires-clause-child c = child-again (shared_of c.child_of.new.kept) c.args.name.now c.args.body c.args.values c.in_ok-child.child c.in_ok-child.ensures.child

pub returns : goal.returns
returns c =
    let is = c.in_ok-child.ensures.child in
    forks-came (shared_of c.args.kept.now) (shared_of c.child_of.new.kept) (shared_of c.add_child.new.kept) c.args.name.now c.args.body c.args.values c.in_ok-child.child.machine.body c.in_ok-child.child.machine.values c.add_child.result is.body_is is.values_are
    c.in_ok-child.ensures.same (search rules) c.add_child.ensures
