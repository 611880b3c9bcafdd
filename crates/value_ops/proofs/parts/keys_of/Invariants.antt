use Rattle.std.proofs.Common.{◌≡◌, ◌++◌, map, drop}
use Rattle.value_core.specs.primitives.Parts.{key_value}
use Rattle.value_ops.proofs.parts.keys_of.Given as goal

abbrev pub invariant-loop-pair : goal.invariant-loop-pair
invariant-loop-pair l = l.items ++ map (λ p. key_value p.key) (drop l.pair-index l.pair-items) ≡ map (λ p. key_value p.key) l.pairs
