use Rattle.shared_world.proofs.Ages.{few-undone}
use Rattle.shared_world.proofs.laws.aborts_are_few.Goals as goal
use Rattle.shared_world.proofs.Opens.{opening-stands}

pub returns : goal.returns
returns c = λ setup first last answers formed opens run u. few-undone setup first last answers (opening-stands setup first formed opens) opens run u
