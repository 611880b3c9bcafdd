use Rattle.sexpr_reader.proofs.Every.{every_text}
use Rattle.sexpr_reader.proofs.laws.every_text.Goals as goal

pub returns : goal.returns
returns c bytes = every_text bytes
