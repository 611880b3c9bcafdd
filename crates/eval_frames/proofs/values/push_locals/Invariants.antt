use Rattle.std.proofs.Common.{◌≡◌, ◌++◌, take}
use Rattle.serial_model.specs.Operation.{hidden_values}
use Rattle.eval_frames.proofs.values.push_locals.Given as goal

abbrev pub invariant-loop-place : goal.invariant-loop-place
invariant-loop-place l = record { all : l.place-items ≡ l.places; done : l.values ≡ l.initial.values ++ hidden_values l.frame (take l.place-index l.place-items) }
