use Rattle.sexpr_reader.proofs.SpelledTexts.{reads_again}
use Rattle.sexpr_reader.proofs.laws.spelled_again.Goals as goal

pub returns : goal.returns
returns c bytes forms s short = reads_again bytes forms s short
