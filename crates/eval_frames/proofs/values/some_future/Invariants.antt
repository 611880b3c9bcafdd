use Rattle.std.proofs.Common.{◌≡◌, drop}
use Rattle.serial_model.specs.Operation.{some_future}
use Rattle.eval_frames.proofs.values.some_future.Given as goal

abbrev pub invariant-loop-value : goal.invariant-loop-value
invariant-loop-value l = some_future (drop l.value-index l.values) ≡ some_future l.values
