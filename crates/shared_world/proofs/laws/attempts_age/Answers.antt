use Rattle.shared_world.proofs.Ages.{gave-ages}
use Rattle.shared_world.proofs.laws.attempts_age.Goals as goal

pub returns : goal.returns
returns c = λ old new result found st gave u. let ages = gave-ages old new result found st gave in ages.counts u
