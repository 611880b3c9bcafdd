-- Answers that were given before another one, from which they are told: things in the order in which one unit or task made
-- them, and integers at equal distances.
use Rattle.std.specs.Prelude.{ℕ, zero, suc, ◌-◌, ◌*◌, ℤ, pos, negsuc, ◌-ℤ◌, List, [], ◌∷◌}
use Rattle.std.specs.Int.{w64, int_wrap}
use Rattle.value_core.specs.declared.value.Value.{Value}
use Rattle.value_core.specs.declared.value.Value.TheVariants as value
use Rattle.serial_model.specs.declared.answer.Answer.{Answer}
use Rattle.serial_model.specs.declared.answer.Answer.TheVariants as answer

-- over how many things so many steps of that stride lead back
abbrev pub moved : ℤ → ℕ → ℕ
moved (pos stride) steps = stride * steps
moved (negsuc n) steps = 0

-- the name of what was made so many things before that one
abbrev pub earlier_name : ℕ → List ℕ → List ℕ
earlier_name steps [] = []
earlier_name steps (number ∷ []) = (number - steps) ∷ []
earlier_name steps (number ∷ next ∷ rest) = number ∷ earlier_name steps (next ∷ rest)

-- the integer so many strides before that one, where 64 bits wrap
abbrev pub earlier_int : ℤ → ℕ → ℤ → ℤ
earlier_int stride zero number = number
earlier_int stride (suc steps) number = earlier_int stride steps (int_wrap w64 (number -ℤ stride))

-- what came so many steps before that value; one that is no integer and no such thing is itself
abbrev pub earlier_value : ℤ → ℕ → Value → Value
earlier_value stride steps (value.Int number) = value.Int (earlier_int stride steps number)
earlier_value stride steps (value.Ref name) = value.Ref (earlier_name (moved stride steps) name)
earlier_value stride steps (value.Actor name) = value.Actor (earlier_name (moved stride steps) name)
earlier_value stride steps (value.Future name) = value.Future (earlier_name (moved stride steps) name)
earlier_value stride steps other = other

abbrev pub earlier : ℤ → ℕ → Answer → Answer
earlier stride steps (answer.Value v) = answer.Value (earlier_value stride steps v)
earlier stride steps fault = fault
