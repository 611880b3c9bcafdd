use Rattle.scope_check.proofs.Every.{every_source}
use Rattle.scope_check.proofs.laws.every_source.Goals as goal

pub returns : goal.returns
returns c forms = every_source forms
