use Rattle.shared_world.proofs.UndoesMarks.{undoes-marks}
use Rattle.shared_world.proofs.laws.undoes_marks.Goals as goal

pub returns : goal.returns
returns c = λ old new u x tree is marked r. undoes-marks old new u x tree is marked r
