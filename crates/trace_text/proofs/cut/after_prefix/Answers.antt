use Rattle.std.proofs.lemmas.Slice.Eq.{strip_prefix_is}
use Rattle.std.proofs.lemmas.Bool.Decides.{Decides-eqb}
use Rattle.trace_text.proofs.Options.{for_some, for_none}
use Rattle.trace_text.proofs.cut.after_prefix.Goals as goal

pub returns-clause-some : goal.returns-clause-some
returns-clause-some c = for_some c.strip_prefix.result _ _ (strip_prefix_is Decides-eqb c.args.bytes.now c.args.prefix.now c.strip_prefix.result c.strip_prefix.ensures.cases)

pub returns-clause-none : goal.returns-clause-none
returns-clause-none c = for_none c.strip_prefix.result _ _ (strip_prefix_is Decides-eqb c.args.bytes.now c.args.prefix.now c.strip_prefix.result c.strip_prefix.ensures.cases)
