use Rattle.shared_world.proofs.Undoes.{undoes-keeps}
use Rattle.shared_world.proofs.laws.undoes_keeps.Goals as goal

pub returns : goal.returns
returns c = λ old new u x tree is r. undoes-keeps old new u x tree is r
