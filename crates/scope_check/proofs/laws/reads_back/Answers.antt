use Rattle.scope_check.proofs.ProgramRead.{read_back}
use Rattle.scope_check.proofs.laws.reads_back.Goals as goal

pub returns : goal.returns
returns c = read_back
