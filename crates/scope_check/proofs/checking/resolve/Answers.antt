use Rattle.std.proofs.Common.{rules}
use Rattle.scope_check.proofs.RangedTops.{found_in_range}
use Rattle.scope_check.proofs.checking.resolve.Goals as goal

-- what was found is in range, where nothing is wrong
pub returns-clause-in_range : goal.returns-clause-in_range
returns-clause-in_range c =
    found_in_range c.args.forms.now (record { tops = c.in_ok-tops.tops; globals = c.in_ok-definitions.field-0.globals; wrong = c.first-wrong.result }) (search rules)
