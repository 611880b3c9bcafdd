-- Primitives of one or two integers.
use Rattle.std.proofs.Common.{◌≡◌, ◌∙◌, ℤ, Bool, true, false, ◌&&◌, List, [], ◌∷◌, length, refl, sym, ap, rules}
use Rattle.std.specs.Prelude.{◌↔◌, IsTrue, if◌then◌else◌, nat_le, Ok, Err}
use Rattle.value_core.specs.Depth.{depth_of}
use Rattle.value_core.specs.declared.code.Code.TheVariants as code
use Rattle.value_core.specs.declared.op.Op.{Op}
use Rattle.value_core.specs.declared.op.Op.TheVariants as op
use Rattle.value_core.specs.declared.op_fault.OpFault.TheVariants as fault
use Rattle.value_core.specs.declared.value.Value.{Value, the_lemmas}
use Rattle.value_core.specs.declared.value.Value.TheVariants as value
use Rattle.value_core.specs.primitives.Apply.{apply_of, limited, rule_of}
use Rattle.value_core.specs.primitives.Equality.{same_value}
use Rattle.value_core.specs.primitives.Kinds.{int_of}
use Rattle.value_core.specs.primitives.Words.{takes_of}
use Rattle.value_core.proofs.primitives.Same.{same_answer}
use Rattle.serial_model.specs.Operation.{Gives, Faults, action_of, applied}

int-depth : (n : ℤ) → depth_of (value.Int n) ≡ 1
int-depth n = search (rules, the_lemmas)

bool-depth : (b : Bool) → depth_of (value.Bool b) ≡ 1
bool-depth b = search (rules, the_lemmas)

-- a value that is not deep is what the primitive gives
gives : (which : Op) (args : List Value) (v : Value) → takes_of which (length args) ≡ true → depth_of v ≡ 1 → rule_of which args ≡ Ok v → applied which args ≡ Gives v
gives which args v takes flat rule =
    ap (λ b. if b then action_of (apply_of which args) else Faults code.WrongType) takes
    ∙ ap (λ r. action_of (limited r)) rule
    ∙ ap (λ d. action_of (if nat_le d 200 then Ok v else Err fault.TooDeep)) flat

the-int : (n : ℤ) → int_of (value.Int n) ≡ n
the-int n = search (rules, the_lemmas)

inner-int : (a b : ℤ) → value.Int a ≡ value.Int b → a ≡ b
inner-int a b same = sym (the-int a) ∙ ap int_of same ∙ the-int b

and-true : (b : Bool) → (b && true) ≡ b
and-true true = refl
and-true false = refl

-- whether two integers are the same
pub same-ints : (a b : ℤ) (same : Bool) → (IsTrue same ↔ (a ≡ b)) → applied op.Same (value.Int a ∷ value.Int b ∷ []) ≡ Gives (value.Bool same)
same-ints a b same iff =
    let answer = same_answer (value.Int a) (value.Int b) same (λ e. ap (λ n. value.Int n) (iff.0 e)) (λ e. iff.1 (inner-int a b e)) in
    gives op.Same (value.Int a ∷ value.Int b ∷ []) (value.Bool same) refl (bool-depth same) (ap (λ t. Ok (value.Bool t)) (and-true (same_value (value.Int a) (value.Int b)) ∙ sym answer))
