use Rattle.world_steps.proofs.Acting.{spawn-came}
use Rattle.world_steps.proofs.Forking.{same-stands, same-unit}
use Rattle.world_steps.specs.Kept.{shared_of}
use Rattle.world_steps.proofs.kept.Kept.spawn.Goals as goal

pub add_spawned-requires-clause-stands : goal.add_spawned-requires-clause-stands
add_spawned-requires-clause-stands c = same-stands (shared_of c.args.self.now) (shared_of c.making.new.self) c.requires.stands c.in_ok-made.ensures.same

pub add_spawned-requires-clause-unit : goal.add_spawned-requires-clause-unit
add_spawned-requires-clause-unit c = same-unit (shared_of c.args.self.now) (shared_of c.making.new.self) c.args.name.now c.args.moved c.in_ok-made.ensures.same c.requires.unit

pub returns : goal.returns
returns c = spawn-came (shared_of c.args.self.now) (shared_of c.making.new.self) (shared_of c.add_spawned.new.self) c.args.name.now c.args.behaviour c.args.state c.args.at c.in_ok-made.ensures.same c.add_spawned.result c.add_spawned.ensures
