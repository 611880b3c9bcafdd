use Rattle.shared_world.proofs.Few.{opening-keeps-few}
use Rattle.shared_world.proofs.laws.opening_keeps_few.Goals as goal

pub returns : goal.returns
returns c = opening-keeps-few
