use Rattle.std.proofs.Common.{◌≡◌, ◌++◌, drop}
use Rattle.resolved_forms.proofs.units.push_all.Given as goal

abbrev pub invariant-loop-one : goal.invariant-loop-one
invariant-loop-one l = l.units ++ drop l.one-index l.more ≡ l.initial.units ++ l.more
