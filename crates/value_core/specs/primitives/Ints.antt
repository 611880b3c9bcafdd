-- Arithmetic in 64 bits.
use Rattle.std.specs.Prelude.{ℤ, pos, negsuc, ◌+ℤ◌, ◌-ℤ◌, ◌*ℤ◌, Bool, true, ◌&&◌, if◌then◌else◌, int_rem, int_lt, int_le, List, [], ◌∷◌, map, fold, Result, Ok, Err}
use Rattle.std.specs.Ordering.{int_eq}
use Rattle.std.specs.List.{list_all}
use Rattle.value_core.specs.declared.value.Value.{Value}
use Rattle.value_core.specs.declared.value.Value.TheVariants.{Bool as bool_value, Int}
use Rattle.value_core.specs.declared.op_fault.OpFault.{OpFault}
use Rattle.value_core.specs.declared.op_fault.OpFault.TheVariants.{WrongType, DivideByZero, Overflow}
use Rattle.value_core.specs.primitives.Kinds.{is_int, int_of}

-- whether the number is from -2 ^ 63 up to 2 ^ 63 - 1
abbrev pub in_range : ℤ → Bool
in_range n = int_le (negsuc 9223372036854775807) n && int_le n (pos 9223372036854775807)

-- the number, where it is in range
abbrev pub checked : ℤ → Result Value OpFault
checked n = if in_range n then Ok (Int n) else Err Overflow

-- the remainder with the divisor's sign
abbrev pub int_mod : ℤ → ℤ → ℤ
int_mod a b =
    let r = int_rem a b in
    if int_eq r (pos 0) then r else (if int_lt r (pos 0) then (if int_lt b (pos 0) then r else r +ℤ b) else (if int_lt b (pos 0) then r +ℤ b else r))

-- from the left, where each partial result is in range
abbrev pub folded : (ℤ → ℤ → ℤ) → ℤ → List ℤ → Result Value OpFault
folded step so_far [] = Ok (Int so_far)
folded step so_far (n ∷ ns) = if in_range (step so_far n) then folded step (step so_far n) ns else Err Overflow

-- the rule for integers, where all arguments are integers
abbrev pub on_ints : (List ℤ → Result Value OpFault) → List Value → Result Value OpFault
on_ints rule args = if list_all is_int args then rule (map int_of args) else Err WrongType

abbrev pub sum_rule : List ℤ → Result Value OpFault
sum_rule ns = folded (λ a b. a +ℤ b) (pos 0) ns

abbrev pub product_rule : List ℤ → Result Value OpFault
product_rule ns = folded (λ a b. a *ℤ b) (pos 1) ns

-- of one number its negation
abbrev pub difference_rule : List ℤ → Result Value OpFault
difference_rule [] = Err WrongType
difference_rule (n ∷ []) = checked (pos 0 -ℤ n)
difference_rule (n ∷ m ∷ ns) = folded (λ a b. a -ℤ b) n (m ∷ ns)

abbrev pub increase_rule : ℤ → List ℤ → Result Value OpFault
increase_rule by (n ∷ []) = checked (n +ℤ by)
increase_rule by _ = Err WrongType

abbrev pub extreme_rule : (ℤ → ℤ → ℤ) → List ℤ → Result Value OpFault
extreme_rule choose [] = Err WrongType
extreme_rule choose (n ∷ ns) = Ok (Int (fold choose n ns))

abbrev pub division_rule : (ℤ → ℤ → ℤ) → List ℤ → Result Value OpFault
division_rule divide (a ∷ b ∷ []) = if int_eq b (pos 0) then Err DivideByZero else checked (divide a b)
division_rule divide _ = Err WrongType

-- whether each number and the next are in the relation
abbrev pub in_order : (ℤ → ℤ → Bool) → List ℤ → Bool
in_order relation [] = true
in_order relation (n ∷ []) = true
in_order relation (n ∷ m ∷ ns) = relation n m && in_order relation (m ∷ ns)

abbrev pub order_rule : (ℤ → ℤ → Bool) → List ℤ → Result Value OpFault
order_rule relation ns = Ok (bool_value (in_order relation ns))

-- the test of the one number
abbrev pub test_rule : (ℤ → Bool) → List ℤ → Result Value OpFault
test_rule test (n ∷ []) = Ok (bool_value (test n))
test_rule test _ = Err WrongType
