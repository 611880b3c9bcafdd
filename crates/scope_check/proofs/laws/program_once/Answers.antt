use Rattle.scope_check.proofs.Agreement.{once}
use Rattle.scope_check.proofs.laws.program_once.Goals as goal

pub returns : goal.returns
returns c = once
