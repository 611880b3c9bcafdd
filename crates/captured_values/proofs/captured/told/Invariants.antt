use Rattle.std.proofs.Common.{◌≡◌, ◌++◌}
use Rattle.shared_vector.specs.VectorItems.{items_left}
use Rattle.captured_values.proofs.captured.told.Given as goal

abbrev pub invariant-loop-value : goal.invariant-loop-value
invariant-loop-value l = l.entries.items ++ items_left l.value-iterator ≡ l.values
