use Rattle.shared_world.proofs.Few.{resets-keep-few}
use Rattle.shared_world.proofs.laws.resets_keep_few.Goals as goal

pub returns : goal.returns
returns c = resets-keep-few
