-- The primitives: the value or the fault that each gives for its arguments.
use Rattle.std.specs.Prelude.{◌≡◌, pos, negsuc, not, nat_le, if◌then◌else◌, int_div, int_rem, int_lt, int_le, List, [], ◌∷◌, Result, Ok, Err}
use Rattle.std.specs.Int.{int_max, int_min}
use Rattle.std.specs.Ordering.{int_eq}
use Rattle.value_core.specs.declared.op.Op.{Op}
use Rattle.value_core.specs.declared.op.Op.TheVariants as op
use Rattle.value_core.specs.declared.value.Value.{Value}
use Rattle.value_core.specs.declared.value.Value.TheVariants.{Nil, Bool as bool_value, Str, Vector}
use Rattle.value_core.specs.declared.value.Value.TheViews.{out-Value}
use Rattle.value_core.specs.Depth.{depth_of}
use Rattle.value_core.specs.Texts.{str_text}
use Rattle.value_core.specs.declared.op_fault.OpFault.{OpFault}
use Rattle.value_core.specs.declared.op_fault.OpFault.TheVariants.{WrongType, Index, TooDeep, Memory}
use Rattle.value_core.specs.primitives.Equality.{all_same}
use Rattle.value_core.specs.primitives.Ints.{on_ints, sum_rule, product_rule, difference_rule, increase_rule, extreme_rule, division_rule, int_mod, order_rule, test_rule}
use Rattle.value_core.specs.primitives.Kinds.{is_nil, is_bool, is_int, is_string, is_keyword, is_vector, is_map, is_false}
use Rattle.value_core.specs.primitives.Parts.{count_step, empty_step, get_step, contains_step, nth_step, conj_step, assoc_step, paired, dissoc_step, keys_step, vals_step, first_step, last_step, rest_step, subvec_step, subvec_to_step, into_step}

-- The rule for this number of arguments. Another number, which the primitive does not take, is a wrong type.
abbrev pub of_one : (Value → Result Value OpFault) → List Value → Result Value OpFault
of_one rule (v ∷ []) = rule v
of_one rule _ = Err WrongType

abbrev pub of_two : (Value → Value → Result Value OpFault) → List Value → Result Value OpFault
of_two rule (v ∷ w ∷ []) = rule v w
of_two rule _ = Err WrongType

abbrev pub of_two_or_three : (Value → Value → Result Value OpFault) → (Value → Value → Value → Result Value OpFault) → List Value → Result Value OpFault
of_two_or_three rule longer (v ∷ w ∷ []) = rule v w
of_two_or_three rule longer (v ∷ w ∷ u ∷ []) = longer v w u
of_two_or_three rule longer _ = Err WrongType

abbrev pub of_first : (Value → List Value → Result Value OpFault) → List Value → Result Value OpFault
of_first rule [] = Err WrongType
of_first rule (v ∷ more) = rule v more

-- Each primitive, with no bound on depth. Of several faults the order is WrongType, DivideByZero, Overflow, Index: a
-- rule for integers first asks for integers, a division then for a divisor, and only then for a result in range; a
-- rule for a vector's places first asks for integers.
abbrev pub rule_of : Op → List Value → Result Value OpFault
rule_of op.Add args = on_ints sum_rule args
rule_of op.Multiply args = on_ints product_rule args
rule_of op.Subtract args = on_ints difference_rule args
rule_of op.Inc args = on_ints (increase_rule (pos 1)) args
rule_of op.Dec args = on_ints (increase_rule (negsuc 0)) args
rule_of op.Max args = on_ints (extreme_rule int_max) args
rule_of op.Min args = on_ints (extreme_rule int_min) args
rule_of op.Quot args = on_ints (division_rule int_div) args
rule_of op.Rem args = on_ints (division_rule int_rem) args
rule_of op.Mod args = on_ints (division_rule int_mod) args
rule_of op.Below args = on_ints (order_rule int_lt) args
rule_of op.AtMost args = on_ints (order_rule int_le) args
rule_of op.Above args = on_ints (order_rule (λ a b. int_lt b a)) args
rule_of op.AtLeast args = on_ints (order_rule (λ a b. int_le b a)) args
rule_of op.Same args = Ok (bool_value (all_same args))
rule_of op.NotSame args = Ok (bool_value (not (all_same args)))
rule_of op.Not args = of_one (λ v. Ok (bool_value (is_false v))) args
rule_of op.IsZero args = on_ints (test_rule (λ n. int_eq n (pos 0))) args
rule_of op.IsPositive args = on_ints (test_rule (λ n. int_lt (pos 0) n)) args
rule_of op.IsNegative args = on_ints (test_rule (λ n. int_lt n (pos 0))) args
rule_of op.IsNil args = of_one (λ v. Ok (bool_value (is_nil v))) args
rule_of op.IsSome args = of_one (λ v. Ok (bool_value (not (is_nil v)))) args
rule_of op.IsInt args = of_one (λ v. Ok (bool_value (is_int v))) args
rule_of op.IsString args = of_one (λ v. Ok (bool_value (is_string v))) args
rule_of op.IsKeyword args = of_one (λ v. Ok (bool_value (is_keyword v))) args
rule_of op.IsBoolean args = of_one (λ v. Ok (bool_value (is_bool v))) args
rule_of op.IsVector args = of_one (λ v. Ok (bool_value (is_vector v))) args
rule_of op.IsMap args = of_one (λ v. Ok (bool_value (is_map v))) args
rule_of op.Vector args = Ok (Vector args)
rule_of op.Count args = of_one (λ v. count_step (out-Value v)) args
rule_of op.Get args = of_two_or_three (λ c key. get_step (out-Value c) key Nil) (λ c key default. get_step (out-Value c) key default) args
rule_of op.Nth args = of_two_or_three (λ c index. nth_step (out-Value c) index (Err Index)) (λ c index default. nth_step (out-Value c) index (Ok default)) args
rule_of op.Conj args = of_first (λ c more. conj_step (out-Value c) more) args
rule_of op.Assoc args = of_first (λ c more. assoc_step (out-Value c) (paired more)) args
rule_of op.Dissoc args = of_first (λ c keys. dissoc_step (out-Value c) keys) args
rule_of op.Contains args = of_two (λ c key. contains_step (out-Value c) key) args
rule_of op.Keys args = of_one (λ c. keys_step (out-Value c)) args
rule_of op.Vals args = of_one (λ c. vals_step (out-Value c)) args
rule_of op.First args = of_one (λ c. first_step (out-Value c)) args
rule_of op.Last args = of_one (λ c. last_step (out-Value c)) args
rule_of op.Rest args = of_one (λ c. rest_step (out-Value c)) args
rule_of op.IsEmpty args = of_one (λ c. empty_step (out-Value c)) args
rule_of op.Subvec args = of_two_or_three (λ c start. subvec_step (out-Value c) start) (λ c start end. subvec_to_step (out-Value c) start end) args
rule_of op.Into args = of_two (λ a b. into_step (out-Value a) (out-Value b)) args
rule_of op.Str args = Ok (Str (str_text args))

-- the value, where it is at most 200 deep
abbrev pub limited : Result Value OpFault → Result Value OpFault
limited (Ok v) = if nat_le (depth_of v) 200 then Ok v else Err TooDeep
limited (Err fault) = Err fault

-- what a primitive gives: last of all faults, TooDeep
abbrev pub apply_of : Op → List Value → Result Value OpFault
apply_of op args = limited (rule_of op args)

-- an answer is the one that is due, or want of memory
abbrev pub Gives : Result Value OpFault → Result Value OpFault → Type 0
Gives (Ok v) due = Ok v ≡ due
Gives (Err Memory) due = Unit {0}
Gives (Err fault) due = Err fault ≡ due
