use Rattle.shared_world.proofs.Over.{over-at-rest}
use Rattle.shared_world.proofs.laws.over_at_rest.Goals as goal

pub returns : goal.returns
returns c = λ s st going state replays end. over-at-rest s st state replays going end
