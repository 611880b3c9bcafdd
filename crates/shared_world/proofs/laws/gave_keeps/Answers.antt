use Rattle.shared_world.proofs.Kept.{gave-keeps}
use Rattle.shared_world.proofs.laws.gave_keeps.Goals as goal

pub returns : goal.returns
returns c = gave-keeps
