use Rattle.std.proofs.Common.{◌≡◌, T, take}
use Rattle.value_core.specs.Pairs.{keys_rise}
use Rattle.value_core.proofs.value.+copy.Given as goal

abbrev pub invariant-copy_pairs-loop-pair : goal.invariant-copy_pairs-loop-pair
invariant-copy_pairs-loop-pair l = record { all : l.pair-items ≡ l.pairs; rising : T (keys_rise l.pair-items); done : l.copied ≡ take l.pair-index l.pair-items }
