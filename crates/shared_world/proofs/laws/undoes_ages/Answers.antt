use Rattle.shared_world.proofs.Undoes.{undoes-ages}
use Rattle.shared_world.proofs.laws.undoes_ages.Goals as goal

pub returns : goal.returns
returns c = λ old new u x tree is r v. undoes-ages old new u x tree is r v
