use Rattle.scope_check.proofs.Agreement.{never_both}
use Rattle.scope_check.proofs.laws.program_or_refused.Goals as goal

pub returns : goal.returns
returns c = never_both
