use Rattle.shared_world.proofs.Opens.{opening-stands}
use Rattle.shared_world.proofs.laws.opening_stands.Goals as goal

pub returns : goal.returns
returns c = opening-stands
