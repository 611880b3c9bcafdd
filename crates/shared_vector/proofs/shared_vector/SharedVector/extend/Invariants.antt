use Rattle.std.proofs.Common.{◌≡◌, ◌++◌, take}
use Rattle.shared_vector.proofs.shared_vector.SharedVector.extend.Given as goal

abbrev pub invariant-loop-item : goal.invariant-loop-item
invariant-loop-item g l = l.self ≡ l.fn.self ++ take l.item-index l.items
