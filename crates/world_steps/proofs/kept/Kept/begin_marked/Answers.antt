use Rattle.world_steps.proofs.Trying.{begin-came, tried-unit}
use Rattle.world_steps.specs.Kept.{shared_of}
use Rattle.world_steps.proofs.kept.Kept.begin_marked.Goals as goal

pub wait_for_root-requires-clause-unit : goal.wait_for_root-requires-clause-unit
wait_for_root-requires-clause-unit c = tried-unit (shared_of c.args.self.now) c.try_with.new.self c.args.name.now c.args.moved c.in_ok-begun.ensures.tried.same c.requires.unit

pub wait_for_root-requires-clause-room : goal.wait_for_root-requires-clause-room
wait_for_root-requires-clause-room c = c.in_ok-begun.ensures.tried.room

pub returns : goal.returns
returns c = begin-came (shared_of c.args.self.now) (shared_of c.wait_for_root.new.self) c.try_with.new.self c.args.name.now c.args.moved c.args.body c.args.values c.args.at c.args.settles c.in_ok-begun.begun c.wait_for_root.result c.requires.stands c.requires.unit
    c.in_ok-begun.ensures.tried c.wait_for_root.ensures.waits
