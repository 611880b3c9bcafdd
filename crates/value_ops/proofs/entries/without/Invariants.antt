use Rattle.std.proofs.Common.{◌≡◌, drop, fold}
use Rattle.value_core.specs.primitives.Parts.{drop_key}
use Rattle.value_ops.proofs.entries.without.Given as goal

abbrev pub invariant-loop-key : goal.invariant-loop-key
invariant-loop-key l = fold drop_key l.pairs (drop l.key-index l.keys) ≡ fold drop_key l.initial.pairs l.keys
