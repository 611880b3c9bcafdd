use Rattle.std.proofs.Common.{◌≡◌, ◌++◌}
use Rattle.shared_vector.specs.VectorItems.{items_left}
use Rattle.eval_frames.proofs.frame.Frame.copied.Given as goal

abbrev pub invariant-loop-value : goal.invariant-loop-value
invariant-loop-value l = l.frame ++ items_left l.value-iterator ≡ l.values
