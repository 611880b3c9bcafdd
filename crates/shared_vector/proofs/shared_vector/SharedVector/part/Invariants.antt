use Rattle.std.proofs.Common.{◌≡◌, ◌-◌, drop, take}
use Rattle.shared_vector.proofs.shared_vector.SharedVector.part.Given as goal

abbrev pub invariant-loop-index : goal.invariant-loop-index
invariant-loop-index g l = l.part ≡ take (l.index - l.start) (drop l.start l.self)
