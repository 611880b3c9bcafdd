use Rattle.std.proofs.Common.{refl}
use Rattle.shared_world.proofs.Ages.{gave-ages}
use Rattle.shared_world.proofs.laws.aborts_are_late.Goals as goal
use Rattle.shared_world.specs.declared.given.Given.TheVariants as given

pub returns : goal.returns
returns c = λ old new result u ref version st gave. let ages = gave-ages old new result (given.Aborted u ref version) st gave in ages.late u ref version refl
