use Rattle.std.proofs.Common.{rules, sym}
use Rattle.said_values.proofs.NumberLemmas.{beyond_between}
use Rattle.said_values.proofs.values.number_within.Goals as goal

pub returns-in-None : goal.returns-in-None
returns-in-None c = sym (beyond_between c.args.least c.args.most c.args.text.now (search rules) c.in-None.ensures.none)
