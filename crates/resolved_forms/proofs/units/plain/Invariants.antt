use Rattle.std.proofs.Common.{◌≡◌, ◌≤◌, ◌-◌, ◌++◌, [], replicate}
use Rattle.resolved_forms.specs.Units.{hidden_from}
use Rattle.resolved_forms.proofs.units.plain.Given as goal

abbrev pub invariant-loop-unit : goal.invariant-loop-unit
invariant-loop-unit l = record {
  within : l.unit ≤ l.end;
  left : l.hidden ++ hidden_from l.reached l.unit (replicate (l.end - l.unit) []) ≡ hidden_from l.reached l.first (replicate (l.end - l.first) []);
}
