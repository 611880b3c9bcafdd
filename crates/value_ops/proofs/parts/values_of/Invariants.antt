use Rattle.std.proofs.Common.{◌≡◌, ◌++◌, map, drop}
use Rattle.value_ops.proofs.parts.values_of.Given as goal

abbrev pub invariant-loop-pair : goal.invariant-loop-pair
invariant-loop-pair l = l.items ++ map (λ p. p.value) (drop l.pair-index l.pair-items) ≡ map (λ p. p.value) l.pairs
