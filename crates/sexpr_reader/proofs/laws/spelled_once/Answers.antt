use Rattle.sexpr_reader.proofs.Unique.{one_spelling}
use Rattle.sexpr_reader.proofs.laws.spelled_once.Goals as goal

pub returns : goal.returns
returns c bytes forms others a b = one_spelling bytes forms others a b
