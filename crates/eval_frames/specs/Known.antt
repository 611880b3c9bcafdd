-- What is known of the values of a frame without a look at their parts.
use Rattle.std.specs.Prelude.{Bool, List, [], ◌∷◌, IsTrue}
use Rattle.value_core.specs.declared.value.Value.{Value}
use Rattle.value_ops.specs.Depths.{IsShallow}

-- Each value whose mark holds is at most 200 deep. The last values may have none.
abbrev pub AreMarks : List Bool → List Value → Type 0
AreMarks [] values = Unit {0}
AreMarks (mark ∷ marks) [] = ⊥
AreMarks (mark ∷ marks) (v ∷ values) = (IsTrue mark → IsShallow v) × AreMarks marks values
