-- The arithmetic that the code's kinds stand for.
use Rattle.std.specs.Prelude.{ℤ, pos, ◌+ℤ◌, ◌-ℤ◌, ◌*ℤ◌, Bool, int_div, int_rem, int_lt, int_le}
use Rattle.std.specs.Int.{int_max, int_min}
use Rattle.std.specs.Ordering.{int_eq}
use Rattle.value_core.specs.primitives.Ints.{int_mod}
use Rattle.int_ops.specs.declared.ints.Arithmetic.{Arithmetic}
use Rattle.int_ops.specs.declared.ints.Arithmetic.TheVariants.{Add, Multiply, Subtract}
use Rattle.int_ops.specs.declared.ints.Division.{Division}
use Rattle.int_ops.specs.declared.ints.Division.TheVariants.{Quot, Rem, Mod}
use Rattle.int_ops.specs.declared.ints.Extreme.{Extreme}
use Rattle.int_ops.specs.declared.ints.Extreme.TheVariants.{Greatest, Least}
use Rattle.int_ops.specs.declared.ints.Order.{Order}
use Rattle.int_ops.specs.declared.ints.Order.TheVariants.{Below, AtMost, Above, AtLeast}
use Rattle.int_ops.specs.declared.ints.Sign.{Sign}
use Rattle.int_ops.specs.declared.ints.Sign.TheVariants.{Zero, Positive, Negative}

abbrev pub step_of : Arithmetic → ℤ → ℤ → ℤ
step_of Add a b = a +ℤ b
step_of Multiply a b = a *ℤ b
step_of Subtract a b = a -ℤ b

abbrev pub quotient_of : Division → ℤ → ℤ → ℤ
quotient_of Quot a b = int_div a b
quotient_of Rem a b = int_rem a b
quotient_of Mod a b = int_mod a b

abbrev pub choice_of : Extreme → ℤ → ℤ → ℤ
choice_of Greatest a b = int_max a b
choice_of Least a b = int_min a b

abbrev pub relation_of : Order → ℤ → ℤ → Bool
relation_of Below a b = int_lt a b
relation_of AtMost a b = int_le a b
relation_of Above a b = int_lt b a
relation_of AtLeast a b = int_le b a

abbrev pub test_of : Sign → ℤ → Bool
test_of Zero n = int_eq n (pos 0)
test_of Positive n = int_lt (pos 0) n
test_of Negative n = int_lt n (pos 0)
