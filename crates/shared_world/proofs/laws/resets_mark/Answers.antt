use Rattle.shared_world.proofs.MarkedReset.{resets-mark}
use Rattle.shared_world.proofs.laws.resets_mark.Goals as goal

pub returns : goal.returns
returns c = resets-mark
