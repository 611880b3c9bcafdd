use Rattle.std.proofs.Common.{◌≡◌, ◌++◌, map}
use Rattle.serial_model.specs.declared.answer.Answer.TheVariants as answer
use Rattle.shared_vector.specs.VectorItems.{items_left}
use Rattle.captured_values.proofs.entry.as_answers.Given as goal

abbrev pub invariant-loop-item : goal.invariant-loop-item
invariant-loop-item l = l.answers ++ map answer.Value (items_left l.item-iterator) ≡ map answer.Value l.items
