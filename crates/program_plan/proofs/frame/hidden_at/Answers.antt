use Rattle.std.proofs.Common.{arith}
use Rattle.std.proofs.lemmas.Grind.{common_steps}
use Rattle.std.proofs.lemmas.Option.{gets}
use Rattle.program_plan.specs.Frame.{Rises}
use Rattle.program_plan.proofs.Places.{All-found}
use Rattle.program_plan.proofs.frame.hidden_at.Goals as goal

pub returns-clause-rises : goal.returns-clause-rises
returns-clause-rises c = All-found Rises c.args.all.now c.args.number _ c.requires (grind (arith, common_steps, gets, c.in-Some.ensures))
