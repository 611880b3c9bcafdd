use Rattle.sexpr_reader.proofs.Never.{never_both}
use Rattle.sexpr_reader.proofs.laws.spelled_or_refused.Goals as goal

pub returns : goal.returns
returns c bytes forms kind at s r = never_both bytes forms kind at s r
