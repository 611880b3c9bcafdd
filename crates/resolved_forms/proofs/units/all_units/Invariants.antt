use Rattle.std.proofs.Common.{◌≡◌, ◌++◌, map, drop}
use Rattle.resolved_forms.specs.Units.{all_units}
use Rattle.resolved_forms.proofs.units.all_units.Given as goal

abbrev pub invariant-loop-one : goal.invariant-loop-one
invariant-loop-one l = l.units ++ map (λ one. one.uses) (drop l.one-index l.one-items) ≡ all_units l.survey
