use Rattle.made_programs.proofs.MadePrograms.{made_program}
use Rattle.made_programs.proofs.laws.made_is_program.Goals as goal

pub returns : goal.returns
returns c = made_program
