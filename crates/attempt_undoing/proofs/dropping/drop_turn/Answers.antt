use Rattle.std.proofs.Common.{ap, refl}
use Rattle.attempt_undoing.proofs.SendsGone.{right-marked}
use Rattle.attempt_undoing.proofs.Steps.{unit-marked}
use Rattle.attempt_undoing.proofs.dropping.drop_turn.Goals as goal
use Rattle.shared_world.specs.Shared.{Shared}
use Rattle.world_steps.specs.Kept.{shared_of}

pub drop_tried-requires : goal.drop_tried-requires
drop_tried-requires c = record { marks = right-marked (shared_of c.args.kept.now) (shared_of c.drop_held.new.kept) c.drop_held.ensures.gone.pieces }

pub returns-clause-gone : goal.returns-clause-gone
returns-clause-gone c = record {
  held = shared_of c.drop_held.new.kept;
  sends = c.drop_held.ensures.gone;
  held_is = ap shared_of c.drop_held.ensures.others;
  tried = shared_of c.drop_tried.new.kept;
  attempt = c.drop_tried.ensures.gone;
  unit = c.drop_unit.ensures;
  new_is = refl;
}

pub returns-clause-marks : goal.returns-clause-marks
returns-clause-marks c =
    let tried : Shared = shared_of c.drop_tried.new.kept in
    unit-marked c.args.name.now tried (record tried { board = c.drop_unit.new.units }) c.drop_unit.ensures refl refl c.drop_tried.ensures.marks
