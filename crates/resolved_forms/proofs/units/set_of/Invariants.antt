use Rattle.std.proofs.Common.{◌≡◌, fold, drop}
use Rattle.std.specs.BTreeSet.{insert_key}
use Rattle.std.specs.Ordering.{nat_cmp}
use Rattle.resolved_forms.specs.Units.{rising}
use Rattle.resolved_forms.proofs.units.set_of.Given as goal

abbrev pub invariant-loop-number : goal.invariant-loop-number
invariant-loop-number l = fold (insert_key nat_cmp) l.set.keys (drop l.number-index l.numbers) ≡ rising l.numbers
