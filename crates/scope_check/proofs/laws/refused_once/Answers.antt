use Rattle.scope_check.proofs.Agreement.{refusal_once}
use Rattle.scope_check.proofs.laws.refused_once.Goals as goal

pub returns : goal.returns
returns c = refusal_once
