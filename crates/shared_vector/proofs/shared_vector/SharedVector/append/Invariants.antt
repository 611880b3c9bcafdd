use Rattle.std.proofs.Common.{◌≡◌, ◌++◌}
use Rattle.shared_vector.specs.VectorItems.{items_left}
use Rattle.shared_vector.proofs.shared_vector.SharedVector.append.Given as goal

abbrev pub invariant-loop-item : goal.invariant-loop-item
invariant-loop-item g l = l.self ++ items_left l.item-iterator ≡ l.fn.self ++ l.more
