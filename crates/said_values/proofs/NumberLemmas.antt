-- A text that is a number is one for the standard library too.
use Rattle.std.proofs.Common.{◌≡◌, ◌≤◌, ◌<◌, ◌^◌, ℕ, List, [], ◌∷◌, Bool, true, false, ◌&&◌, refl, sym, ap, ◌∙◌, arith, true≢false, get_or, ◌≢◌, length, Result, Ok, Err, None, Some, IfNone, IfSome, Option}
use Rattle.std.specs.Prelude.{nat_le}
use Rattle.std.specs.Result.{result_ok}
use Rattle.std.specs.Char.{is_ascii_digit, digit_value}
use Rattle.std.specs.List.{list_all}
use Rattle.std.specs.Str.Parse.{AllDigits, IsNumeral, ParsesUnsigned, digits_value, without_leading_plus}
use Rattle.std.proofs.lemmas.Str.{digit_value_digit}
use Rattle.std.proofs.lemmas.Str.Parse.{without_leading_plus_none}
use Rattle.std.proofs.lemmas.Bool.Decides.{nat_tests}
use Rattle.std.proofs.Common.{inl, inr, subst}
use Rattle.std.specs.Prelude.{option_and_then, codes}
use Rattle.std.proofs.lemmas.Bool.{and_right, cases_lt}
use Rattle.said_values.specs.Values.{budget_of, limits_of, number_between, number_or, within}
use Rattle.serial_model.specs.Limits.{default_budget}
use Rattle.said_values.specs.Number.{is_number, number_of, has_no_needless_zero}

both : (a b : Bool) → (a && b) ≡ true → (a ≡ true) × (b ≡ true)
both true b h = (refl, h)
both false b h = absurd (true≢false (sym h))

pub digit_in : (d : ℕ) → is_ascii_digit d ≡ true → (48 ≤ d) × (d ≤ 57)
digit_in d h = grind (arith, nat_tests)

digit_below : (d : ℕ) → is_ascii_digit d ≡ true → digit_value d < 10
digit_below d h =
    let range = digit_in d h in
    omega (arith, digit_value_digit d range)

digits : (ds : List ℕ) → list_all is_ascii_digit ds ≡ true → AllDigits 10 ds
digits [] h = tt
digits (d ∷ ds) h =
    let parts = both (is_ascii_digit d) (list_all is_ascii_digit ds) h in
    (digit_below d parts.0, digits ds parts.1)

-- it is a numeral, with no plus in front
pub numeral : (text : List ℕ) → is_number text ≡ true → IsNumeral 10 text × (without_leading_plus text ≡ text)
numeral [] h = absurd (true≢false (sym h))
numeral (d ∷ ds) h =
    let parts = both (nat_le (length (d ∷ ds)) 20 && has_no_needless_zero (d ∷ ds)) (list_all is_ascii_digit (d ∷ ds)) h in
    let range = digit_in d (both (is_ascii_digit d) (list_all is_ascii_digit ds) parts.1).0 in
    let no_plus : get_or (d ∷ ds) 0 0 ≢ 43 = λ plus. let bad : d ≡ 43 = plus in absurd (omega (arith, bad, range.0)) in
    ((omega arith, digits (d ∷ ds) parts.1), without_leading_plus_none (d ∷ ds) no_plus)

-- where it is refused as a `u64`, it is above all of them
pub beyond : {E : Type 0} (text : List ℕ) (r : Result ℕ E) → is_number text ≡ true → ParsesUnsigned 64 10 text r → IfNone (result_ok r) (IfSome (number_of text) (λ n. 2 ^ 64 ≤ n))
beyond text (Ok n) is parsed = tt
beyond text (Err e) is parsed = rw is (elim (cases_lt (digits_value 10 text) (2 ^ 64)) [
  | inl below ↦ absurd (refused below)
  | inr above ↦ above
])
  where
    refused : digits_value 10 text < 2 ^ 64 → ⊥
    refused below =
        let known = numeral text is in
        parsed (subst (λ t. IsNumeral 10 t × (digits_value 10 t < 2 ^ 64)) (sym known.1) (known.0, below))

-- as a number of units such a number is out of its range
pub beyond_units : (fuel : ℕ) (units : Option ℕ) → IfSome units (λ n. 2 ^ 64 ≤ n) → option_and_then (budget_of fuel) units ≡ None
beyond_units fuel None above = refl
beyond_units fuel (Some n) above =
    let over : nat_le n 1000000 ≡ false = grind (arith, nat_tests) in
    rw (and_right (nat_le 1 fuel && nat_le fuel 10000000) _ (and_right (nat_le 1 n) (nat_le n 1000000) over)) refl

pub limits_beyond : (given : List ℕ → Option (List ℕ)) (fuel fuel_default units_default : ℕ) → fuel_default ≡ default_budget.fuel → units_default ≡ default_budget.units
    → number_or fuel_default (given (codes "fuel")) ≡ Some fuel → IfSome (number_or units_default (given (codes "units"))) (λ n. 2 ^ 64 ≤ n) → None ≡ limits_of given
limits_beyond given fuel fuel_default units_default same_fuel same_units known above =
    let units : IfSome (number_or default_budget.units (given (codes "units"))) (λ n. 2 ^ 64 ≤ n) =
    subst (λ d. IfSome (number_or d (given (codes "units"))) (λ n. 2 ^ 64 ≤ n)) same_units above in
    sym (ap (option_and_then (λ f. option_and_then (budget_of f) (number_or default_budget.units (given (codes "units")))))
    (ap (λ d. number_or d (given (codes "fuel"))) (sym same_fuel) ∙ known)
    ∙ beyond_units fuel _ units)

-- nor is it in a range of 32 bits
beyond_within : (least most : ℕ) (number : Option ℕ) → most < 2 ^ 32 → IfSome number (λ n. 2 ^ 64 ≤ n) → option_and_then (within least most) number ≡ None
beyond_within least most None small above = refl
beyond_within least most (Some n) small above =
    let over : nat_le n most ≡ false = grind (arith, nat_tests) in
    rw (and_right (nat_le least n) (nat_le n most) over) refl

pub beyond_between : (least most : ℕ) (text : List ℕ) → most < 2 ^ 32 → IfSome (number_of text) (λ n. 2 ^ 64 ≤ n) → number_between least most (Some text) ≡ None
beyond_between least most text small above = beyond_within least most (number_of text) small above
