use Rattle.sexpr_reader.proofs.Integers.{IsInteger-utf8}
use Rattle.sexpr_reader.proofs.integer.integer.Goals as goal

pub returns-in_default-from_utf8 : goal.returns-in_default-from_utf8
returns-in_default-from_utf8 c n i = c.in_default-from_utf8.ensures.cases.0 (IsInteger-utf8 c.args.word.now n i)
