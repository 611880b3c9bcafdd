-- Counting back by nothing, in two steps, by strides at once, and at the end of a name.
use Rattle.std.proofs.Common.{◌≡◌, ◌∙◌, ◌↔◌, ℕ, zero, suc, ◌+◌, ◌-◌, List, [], ◌∷◌, ◌++◌, refl, sym, ap, arith}
use Rattle.std.specs.Prelude.{ℤ, pos, negsuc, ◌+ℤ◌, ◌-ℤ◌, ◌*ℤ◌, neg_ℤ}
use Rattle.std.specs.Int.{w64, int_wrap}
use Rattle.std.specs.Int.RustNames.{FitsSigned}
use Rattle.std.proofs.Math.IntN.{zero-*ℤ, suc_ℤ-*ℤ}
use Rattle.std.proofs.Math.Nat.{mul-add}
use Rattle.std.proofs.lemmas.Int.{ints, int_wrap_fits, int_wrap-add_left, SFits-int_wrap}
use Rattle.value_core.specs.declared.value.Value.{Value}
use Rattle.value_core.specs.declared.value.Value.TheVariants as value
use Rattle.serial_model.specs.declared.answer.Answer.{Answer}
use Rattle.serial_model.specs.declared.answer.Answer.TheVariants as answer
use Rattle.answer_runs.specs.Earlier.{moved, earlier_name, earlier_int, earlier_value, earlier}

earlier_name-zero : (name : List ℕ) → earlier_name 0 name ≡ name
earlier_name-zero [] = refl
earlier_name-zero (number ∷ []) = ap (λ n. n ∷ []) (let same : number - 0 ≡ number = omega arith in same)
earlier_name-zero (number ∷ next ∷ rest) = ap (λ l. number ∷ l) (earlier_name-zero (next ∷ rest))

moved-zero : (stride : ℤ) → moved stride 0 ≡ 0
moved-zero (pos stride) = omega arith
moved-zero (negsuc n) = refl

moved-more : (stride : ℤ) (steps more : ℕ) → moved stride steps + moved stride more ≡ moved stride (steps + more)
moved-more (pos stride) steps more = sym (mul-add stride steps more)
moved-more (negsuc n) steps more = refl

moved-none : (stride : ℤ) (name : List ℕ) → earlier_name (moved stride 0) name ≡ name
moved-none stride name = ap (λ n. earlier_name n name) (moved-zero stride) ∙ earlier_name-zero name

earlier_value-zero : (stride : ℤ) (v : Value) → earlier_value stride 0 v ≡ v
earlier_value-zero stride (value.Ref name) = ap value.Ref (moved-none stride name)
earlier_value-zero stride (value.Actor name) = ap value.Actor (moved-none stride name)
earlier_value-zero stride (value.Future name) = ap value.Future (moved-none stride name)
earlier_value-zero stride other = refl

pub earlier-zero : (stride : ℤ) (a : Answer) → earlier stride 0 a ≡ a
earlier-zero stride (answer.Value v) = ap answer.Value (earlier_value-zero stride v)
earlier-zero stride (answer.Fault code) = refl

earlier_name-twice : (more steps : ℕ) (name : List ℕ) → earlier_name more (earlier_name steps name) ≡ earlier_name (steps + more) name
earlier_name-twice more steps [] = refl
earlier_name-twice more steps (number ∷ []) = ap (λ n. n ∷ []) (let same : number - steps - more ≡ number - (steps + more) = omega arith in same)
earlier_name-twice more steps (number ∷ next ∷ []) = ap (λ l. number ∷ l) (earlier_name-twice more steps (next ∷ []))
earlier_name-twice more steps (number ∷ next ∷ third ∷ rest) = ap (λ l. number ∷ l) (earlier_name-twice more steps (next ∷ third ∷ rest))

moved-twice : (stride : ℤ) (more steps : ℕ) (name : List ℕ) → earlier_name (moved stride more) (earlier_name (moved stride steps) name) ≡ earlier_name (moved stride (steps + more)) name
moved-twice stride more steps name =
    earlier_name-twice (moved stride more) (moved stride steps) name ∙ ap (λ n. earlier_name n name) (moved-more stride steps more)

earlier_int-twice : (stride : ℤ) (more steps : ℕ) (number : ℤ) → earlier_int stride more (earlier_int stride steps number) ≡ earlier_int stride (steps + more) number
earlier_int-twice stride more zero number = ap (λ n. earlier_int stride n number) (let same : more ≡ zero + more = omega arith in same)
earlier_int-twice stride more (suc steps) number =
    earlier_int-twice stride more steps (int_wrap w64 (number -ℤ stride)) ∙ ap (λ n. earlier_int stride n number) (let next : suc (steps + more) ≡ suc steps + more = omega arith in next)

earlier_value-twice : (stride : ℤ) (more steps : ℕ) (v : Value) → earlier_value stride more (earlier_value stride steps v) ≡ earlier_value stride (steps + more) v
earlier_value-twice stride more steps (value.Int number) = ap value.Int (earlier_int-twice stride more steps number)
earlier_value-twice stride more steps (value.Ref name) = ap value.Ref (moved-twice stride more steps name)
earlier_value-twice stride more steps (value.Actor name) = ap value.Actor (moved-twice stride more steps name)
earlier_value-twice stride more steps (value.Future name) = ap value.Future (moved-twice stride more steps name)
earlier_value-twice stride more steps other = refl

pub earlier-twice : (stride : ℤ) (more steps : ℕ) (a : Answer) → earlier stride more (earlier stride steps a) ≡ earlier stride (steps + more) a
earlier-twice stride more steps (answer.Value v) = ap answer.Value (earlier_value-twice stride more steps v)
earlier-twice stride more steps (answer.Fault code) = refl

-- so many strides at once, where the number is one of 64 bits
pub earlier_int-is : (stride : ℤ) (steps : ℕ) (number : ℤ) → FitsSigned w64 number → earlier_int stride steps number ≡ int_wrap w64 (number -ℤ pos steps *ℤ stride)
earlier_int-is stride zero number fits =
    sym (ap (λ d. int_wrap w64 (number -ℤ d)) (zero-*ℤ stride) ∙ ap (int_wrap w64) (let same : number -ℤ pos 0 ≡ number = omega (arith, ints) in same) ∙ int_wrap_fits w64 number fits)
earlier_int-is stride (suc steps) number fits =
    let rest = pos steps *ℤ stride in
    earlier_int-is stride steps (int_wrap w64 (number -ℤ stride)) (SFits-int_wrap w64 (number -ℤ stride))
    ∙ int_wrap-add_left w64 (number -ℤ stride) (neg_ℤ rest)
    ∙ ap (int_wrap w64) ((let same : number -ℤ stride -ℤ rest ≡ number -ℤ (rest +ℤ stride) = omega (arith, ints) in same)
    ∙ ap (λ d. number -ℤ d) (sym (suc_ℤ-*ℤ (pos steps) stride)))

-- the last number alone is counted back
pub earlier_name-end : (steps : ℕ) (maker : List ℕ) (number : ℕ) → earlier_name steps (maker ++ number ∷ []) ≡ maker ++ (number - steps) ∷ []
earlier_name-end steps [] number = refl
earlier_name-end steps (first ∷ []) number = refl
earlier_name-end steps (first ∷ next ∷ rest) number = ap (λ l. first ∷ l) (earlier_name-end steps (next ∷ rest) number)

no_end : (bs : List ℕ) (y : ℕ) → [] ≡ bs ++ y ∷ [] → ⊥
no_end [] y e = cc
no_end (b ∷ bs) y e = cc

heads : {x y : ℕ} {xs ys : List ℕ} → x ∷ xs ≡ y ∷ ys → x ≡ y
heads e = cc

tails : {x y : ℕ} {xs ys : List ℕ} → x ∷ xs ≡ y ∷ ys → xs ≡ ys
tails e = cc

ends : (ms bs : List ℕ) (x y : ℕ) → ms ++ x ∷ [] ≡ bs ++ y ∷ [] → (ms ≡ bs) × (x ≡ y)
ends [] [] x y e = (refl, heads e)
ends [] (b ∷ bs) x y e = absurd (no_end bs y (tails e))
ends (m ∷ ms) [] x y e = absurd (no_end ms x (sym (tails e)))
ends (m ∷ ms) (b ∷ bs) x y e =
    let rest = ends ms bs x y (tails e) in
    (ap (λ l. m ∷ l) rest.0 ∙ ap (λ h. h ∷ bs) (heads e), rest.1)

-- two names are counted back to one where their makers are one and their numbers are counted back to one
pub same-ends : (steps other : ℕ) (left right maker made : List ℕ) (l r : ℕ) → left ≡ maker ++ l ∷ [] → right ≡ made ++ r ∷ []
    → (earlier_name steps left ≡ earlier_name other right) ↔ ((maker ≡ made) × (l - steps ≡ r - other))
same-ends steps other left right maker made l r is was =
    let one = ap (earlier_name steps) is ∙ earlier_name-end steps maker l in
    let two = ap (earlier_name other) was ∙ earlier_name-end other made r in
    (λ e. ends maker made (l - steps) (r - other) (sym one ∙ e ∙ two), λ both. one ∙ ap (λ m. m ++ (l - steps) ∷ []) both.0 ∙ ap (λ n. made ++ n ∷ []) both.1 ∙ sym two)
