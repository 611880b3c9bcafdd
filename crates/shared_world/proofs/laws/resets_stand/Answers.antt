use Rattle.shared_world.proofs.Resetting.{resets-stand}
use Rattle.shared_world.proofs.laws.resets_stand.Goals as goal

pub returns : goal.returns
returns c = resets-stand
