use Rattle.shared_world.proofs.MarkLaws.{opening-marks}
use Rattle.shared_world.proofs.laws.opening_marks.Goals as goal

pub returns : goal.returns
returns c = opening-marks
