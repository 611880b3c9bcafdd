use Rattle.shared_world.proofs.Few.{gave-keeps-few}
use Rattle.shared_world.proofs.laws.gave_keeps_few.Goals as goal

pub returns : goal.returns
returns c = gave-keeps-few
