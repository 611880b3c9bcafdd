use Rattle.std.proofs.Common.{◌≡◌, ◌+◌, ◌++◌, map, drop}
use Rattle.resolved_forms.specs.Units.{hidden_from}
use Rattle.resolved_forms.proofs.units.push_loops.Given as goal

abbrev pub invariant-loop-index : goal.invariant-loop-index
invariant-loop-index l =
    l.hidden ++ hidden_from l.reached (l.first + l.index) (map (λ one. one.levels) (drop l.index l.loops)) ≡ l.initial.hidden ++ hidden_from l.reached l.first (map (λ one. one.levels) l.loops)
