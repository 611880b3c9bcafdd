use Rattle.shared_world.proofs.MarkLaws.{others-are-ready}
use Rattle.shared_world.proofs.laws.others_are_ready.Goals as goal

pub returns : goal.returns
returns c = others-are-ready
