-- Steps of loops over integers.
use Rattle.std.proofs.Common.{◌≡◌, ℕ, zero, suc, ◌+◌, ◌-◌, ◌<◌, ◌≤◌, ℤ, Bool, true, ◌&&◌, cond, subst, Result, Err, List, [], ◌∷◌, map, length, drop, get_or, refl, sym, ap, ◌∙◌, arith, drop-cons}
use Rattle.std.proofs.lemmas.List.{get_or_default}
use Rattle.std.specs.List.{list_all}
use Rattle.value_core.specs.declared.value.Value.{Value}
use Rattle.int_ops.specs.declared.ints.Arithmetic.TheVariants.{Subtract}
use Rattle.value_core.specs.declared.op_fault.OpFault.{OpFault}
use Rattle.value_core.specs.declared.op_fault.OpFault.TheVariants.{WrongType}
use Rattle.value_core.specs.primitives.Apply.{Gives}
use Rattle.value_core.specs.primitives.Ints.{in_order, folded, on_ints, difference_rule}
use Rattle.int_ops.specs.Ints.{step_of}
use Rattle.value_core.specs.primitives.Kinds.{is_int, int_of}

-- a number and the next are compared, and then the rest
pub in_order_step : {A : Type 0} (relation : ℤ → ℤ → Bool) (int : A → ℤ) (xs : List A) (i : ℕ) (d : A) → suc i < length xs
    → in_order relation (map int (drop i xs)) ≡ (relation (int (get_or xs i d)) (int (get_or xs (suc i) d)) && in_order relation (map int (drop (suc i) xs)))
in_order_step relation int xs i d lt =
    let here = drop-cons xs i d (omega arith) in
    let next = drop-cons xs (suc i) d lt in
    rw (here, next) refl

-- one number, or none, is in order
pub in_order_end : {A : Type 0} (relation : ℤ → ℤ → Bool) (int : A → ℤ) (xs : List A) (i : ℕ) → length xs ≤ suc i → in_order relation (map int (drop i xs)) ≡ true
in_order_end relation int [] zero le = refl
in_order_end relation int [] (suc i) le = refl
in_order_end relation int (x ∷ []) zero le = refl
in_order_end relation int (x ∷ y ∷ xs) zero le = absurd (omega arith)
in_order_end relation int (x ∷ xs) (suc i) le = in_order_end relation int xs i (omega arith)

pub in_order_more : {A : Type 0} (relation : ℤ → ℤ → Bool) (int : A → ℤ) (xs : List A) (n : ℕ) (d e : A) → 1 ≤ n → n < length xs
    → in_order relation (map int (drop (n - 1) xs)) ≡ (relation (int (get_or xs (n - 1) d)) (int (get_or xs n e)) && in_order relation (map int (drop (n + 1 - 1) xs)))
in_order_more relation int xs zero d e le lt = absurd (omega arith)
in_order_more relation int xs (suc i) d e le lt =
    let before : suc i - 1 ≡ i = omega arith in
    let after : suc i + 1 - 1 ≡ suc i = omega arith in
    rw (before, after, get_or_default xs (suc i) e d lt) (in_order_step relation int xs i d lt)

pub in_order_all : {A : Type 0} (relation : ℤ → ℤ → Bool) (int : A → ℤ) (xs : List A) (n : ℕ) → length xs ≤ n → in_order relation (map int (drop (n - 1) xs)) ≡ true
in_order_all relation int xs zero le = in_order_end relation int xs (zero - 1) (omega arith)
in_order_all relation int xs (suc i) le = let before : suc i - 1 ≡ i = omega arith in rw before (in_order_end relation int xs i le)

-- two arguments or more are subtracted from the first
pub difference_many : (xs : List Value) (first : Value) (n : ℤ) (r : Result Value OpFault) → 2 ≤ length xs → list_all is_int xs ≡ true → first ≡ get_or xs 0 first → n ≡ int_of first
    → Gives r (folded (step_of Subtract) n (map int_of (drop 1 xs))) → Gives r (on_ints difference_rule xs)
difference_many [] first n r le all at e given = absurd (omega arith)
difference_many (x ∷ []) first n r le all at e given = absurd (omega arith)
difference_many (x ∷ y ∷ xs) first n r le all at e given =
    let ints = map int_of (y ∷ xs) in
    let start : n ≡ int_of x = e ∙ ap int_of at in
    subst (λ b. Gives r (cond b (difference_rule (map int_of (x ∷ y ∷ xs))) (Err WrongType))) (sym all) (subst (λ m. Gives r (folded (step_of Subtract) m ints)) start given)

-- a number that is in the relation to the next, and then the rest
pub in_order_next : {A : Type 0} (relation : ℤ → ℤ → Bool) (int : A → ℤ) (xs : List A) (n : ℕ) (x y : A) (p q : ℤ) → 1 ≤ n → n < length xs → x ≡ get_or xs (n - 1) x → y ≡ get_or xs n y → p ≡ int x → q ≡ int y → true ≡ relation p q
    → in_order relation (map int (drop (n - 1) xs)) ≡ in_order relation (map int (drop (n + 1 - 1) xs))
in_order_next relation int xs n x y p q le lt at_x at_y is_p is_q holds =
    let related : relation (int (get_or xs (n - 1) x)) (int (get_or xs n y)) ≡ true = (λ i. relation ((ap int (sym at_x) ∙ sym is_p) i) ((ap int (sym at_y) ∙ sym is_q) i)) ∙ sym holds in
    in_order_more relation int xs n x y le lt ∙ ap (λ b. b && in_order relation (map int (drop (n + 1 - 1) xs))) related
