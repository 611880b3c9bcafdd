use Rattle.shared_world.proofs.Later.{gave-appends}
use Rattle.shared_world.proofs.laws.gave_appends.Goals as goal

pub returns : goal.returns
returns c = gave-appends
