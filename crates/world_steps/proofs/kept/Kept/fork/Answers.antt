use Rattle.std.proofs.Common.{rules}
use Rattle.world_steps.proofs.Forking.{fork-came, same-stands}
use Rattle.world_steps.specs.Kept.{shared_of}
use Rattle.world_steps.proofs.kept.Kept.fork.Goals as goal

pub add_child-requires-clause-stands : goal.add_child-requires-clause-stands
add_child-requires-clause-stands c = same-stands (shared_of c.args.self.now) (shared_of c.forking.new.self) c.requires.stands c.in_ok-forking.ensures.same

pub returns : goal.returns
returns c = fork-came (shared_of c.args.self.now) (shared_of c.forking.new.self) (shared_of c.add_child.new.self) c.args.name.now c.args.body c.args.values c.in_ok-child.child.body c.in_ok-child.child.values c.args.at c.in_ok-child.ensures.body c.in_ok-child.ensures.values
    c.in_ok-forking.ensures.same (search rules) c.add_child.result c.add_child.ensures
