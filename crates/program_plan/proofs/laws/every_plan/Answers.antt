use Rattle.program_plan.proofs.Every.{every_plan}
use Rattle.program_plan.proofs.laws.every_plan.Goals as goal

pub returns : goal.returns
returns c tops globals = every_plan tops globals
