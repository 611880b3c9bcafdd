use Rattle.shared_world.proofs.MarkLaws.{gave-marks}
use Rattle.shared_world.proofs.laws.gave_marks.Goals as goal

pub returns : goal.returns
returns c = gave-marks
