-- Which words the lines of a trace are made of.
use Rattle.std.proofs.Common.{◌≡◌, ◌≢◌, ℕ, ◌<◌, ◌≤◌, ◌^◌, true, List, ◌∷◌, ◌++◌, refl, sym, subst, ◌∙◌, arith, inl, inr, ◌⊎◌, append_assoc}
use Rattle.std.specs.Fmt.{decimal}
use Rattle.std.specs.Prelude.{codes}
use Rattle.std.proofs.lemmas.Fmt.{decimal_injective}
use Rattle.value_core.specs.FaultCodes.{code_number}
use Rattle.value_core.specs.Name.{name_text, IsTextOf}
use Rattle.value_core.specs.declared.code.Code.{Code}
use Rattle.value_core.specs.declared.code.Code.TheVariants as code
use Rattle.value_core.specs.Place.{Spot}
use Rattle.serial_model.specs.Limits.{Budget, IsInRange}
use Rattle.serial_model.specs.Trace.{IsName, IsPlace, place_text}
use Rattle.trace_text.specs.Cut.{IsCut, is_without}
use Rattle.trace_text.specs.Lines.{IsCodeText, IsLimitsText, IsNumberText, IsPlaceText}
use Rattle.trace_text.proofs.Cuts.{cut_once, without_append, without_more}
use Rattle.trace_text.proofs.Digits.{decimal_without, name_without}
use Rattle.trace_text.proofs.Pairs.{IsPair, NeverHas}

-- ---- the kinds of words
pub record IsNumber (word : List ℕ) : Type 0 where
  pub number : ℕ
  pub is : IsNumberText number word

pub record IsNameWord (word : List ℕ) : Type 0 where
  pub name : List ℕ
  pub is : IsTextOf name word

pub record IsCode (word : List ℕ) : Type 0 where
  pub failed : Code
  pub is : IsCodeText failed word

pub record IsPlaceWord (word : List ℕ) : Type 0 where
  pub at : Spot
  pub is : IsPlaceText at word

pub number_word : (number : ℕ) → number < 2 ^ 32 → IsNumber (decimal number)
number_word number small = record { number = number; is = record { small = small; spelled = refl } }

pub name_word : (name : List ℕ) → IsName name → IsNameWord (name_text name)
name_word name is = record { name = name; is = record { not_empty = is.not_empty; in_range = is.in_range; spelled = refl } }

pub code_word : (failed : Code) → IsCode (decimal (code_number failed))
code_word failed = record { failed = failed; is = record { spelled = refl } }

pub place_word : (at : Spot) → IsPlace at → IsPlaceWord (place_text at)
place_word at is = record { at = at; is = record { is_place = is; spelled = refl } }

-- ---- no word has a mark that ends it
pub numbers_never_space : NeverHas 32 IsNumber
numbers_never_space word w = let small = w.is.small in subst (λ xs. is_without 32 xs ≡ true) w.is.spelled (decimal_without 32 w.number (inl (omega arith)) (omega arith))

pub numbers_never_colon : NeverHas 58 IsNumber
numbers_never_colon word w = let small = w.is.small in subst (λ xs. is_without 58 xs ≡ true) w.is.spelled (decimal_without 58 w.number (inr (omega arith)) (omega arith))

pub names_never_space : NeverHas 32 IsNameWord
names_never_space word w = subst (λ xs. is_without 32 xs ≡ true) w.is.spelled (name_without 32 w.name (inl (omega arith)) refl (record { not_empty = w.is.not_empty; in_range = w.is.in_range }))

pub code_small : (failed : Code) → code_number failed ≤ 10
code_small code.WrongType = omega arith
code_small code.DivideByZero = omega arith
code_small code.Overflow = omega arith
code_small code.Index = omega arith
code_small code.NoTransaction = omega arith
code_small code.NoTurn = omega arith
code_small code.FutureEscapes = omega arith
code_small code.ForkTooDeep = omega arith
code_small code.TooDeep = omega arith
code_small code.MessageArity = omega arith

pub codes_never_space : NeverHas 32 IsCode
codes_never_space word w = let small = code_small w.failed in subst (λ xs. is_without 32 xs ≡ true) w.is.spelled (decimal_without 32 (code_number w.failed) (inl (omega arith)) (omega arith))

pub place_is : (at : Spot) → place_text at ≡ decimal at.line ++ 58 ∷ decimal at.column
place_is at = append_assoc (decimal at.line) (codes ":") (decimal at.column)

pub places_never_space : NeverHas 32 IsPlaceWord
places_never_space word w =
    let small = w.is.is_place.small_line in
    let other = w.is.is_place.small_column in
    subst (λ xs. is_without 32 xs ≡ true) (sym (place_is w.at) ∙ w.is.spelled)
    (without_append 32 (decimal w.at.line) (58 ∷ decimal w.at.column) (decimal_without 32 w.at.line (inl (omega arith)) (omega arith))
    (without_more 32 58 (decimal w.at.column) refl (decimal_without 32 w.at.column (inl (omega arith)) (omega arith))))

-- ---- limits
limits_joined : (line numbers : List ℕ) → line ≡ codes "limits " ++ numbers → (limits : Budget) → IsLimitsText limits line → numbers ≡ decimal limits.fuel ++ 32 ∷ decimal limits.units
limits_joined line numbers e limits is =
    let whole = is.spelled ∙ e in
    let tail : numbers ≡ (decimal limits.fuel ++ codes " ") ++ decimal limits.units = cc in
    tail ∙ append_assoc (decimal limits.fuel) (codes " ") (decimal limits.units)

pub no_limits : (line numbers : List ℕ) → line ≡ codes "limits " ++ numbers → ¬ (IsPair 32 IsNumber IsNumber numbers) → (limits : Budget) → ¬ (IsLimitsText limits line)
no_limits line numbers e no_pair limits is =
    let low = is.in_range.most_fuel in
    let few = is.in_range.most_units in
    no_pair (record { left = decimal limits.fuel; right = decimal limits.units; first = number_word limits.fuel (omega arith); second = number_word limits.units (omega arith); joined = limits_joined line numbers e limits is })

-- numbers that are not in range are no limits
pub out_of_range : (line numbers before after : List ℕ) (fuel units : ℕ) → line ≡ codes "limits " ++ numbers → IsCut 32 numbers before after → IsNumberText fuel before → IsNumberText units after → ¬ (IsInRange (record { fuel = fuel; units = units })) → (limits : Budget) → ¬ (IsLimitsText limits line)
out_of_range line numbers before after fuel units e cut left right other limits is =
    let low = is.in_range.most_fuel in
    let few = is.in_range.most_units in
    let joined = limits_joined line numbers e limits is in
    let pieces = cut_once 32 before after (decimal limits.fuel) (decimal limits.units) cut.first (numbers_never_space (decimal limits.fuel) (number_word limits.fuel (omega arith))) (sym cut.joined ∙ joined) in
    let fuels : fuel ≡ limits.fuel = decimal_injective fuel limits.fuel (omega (arith, left.small)) (omega arith) (left.spelled ∙ pieces.0) in
    let unitss : units ≡ limits.units = decimal_injective units limits.units (omega (arith, right.small)) (omega arith) (right.spelled ∙ pieces.1) in
    other (record { some_fuel = omega (arith, is.in_range.some_fuel); most_fuel = omega arith; some_units = omega (arith, is.in_range.some_units); most_units = omega arith })

-- ---- places
pub no_place : (word : List ℕ) → ¬ (IsPair 58 IsNumber IsNumber word) → (at : Spot) → ¬ (IsPlaceText at word)
no_place word no_pair at is =
    no_pair (record { left = decimal at.line; right = decimal at.column; first = number_word at.line is.is_place.small_line; second = number_word at.column is.is_place.small_column; joined = sym is.spelled ∙ place_is at })

-- a line or a column of 0 is at no place
pub no_place_at_zero : (word before after : List ℕ) (line column : ℕ) → IsCut 58 word before after → IsNumberText line before → IsNumberText column after → (line ≡ 0) ⊎ (column ≡ 0) → (at : Spot) → ¬ (IsPlaceText at word)
no_place_at_zero word before after line column cut left right zero_one at is =
    let small_line = is.is_place.small_line in
    let small_column = is.is_place.small_column in
    let pieces = cut_once 58 before after (decimal at.line) (decimal at.column) cut.first (numbers_never_colon (decimal at.line) (number_word at.line small_line)) (sym cut.joined ∙ sym is.spelled ∙ place_is at) in
    let lines : line ≡ at.line = decimal_injective line at.line (omega (arith, left.small)) (omega arith) (left.spelled ∙ pieces.0) in
    let columns : column ≡ at.column = decimal_injective column at.column (omega (arith, right.small)) (omega arith) (right.spelled ∙ pieces.1) in
    elim zero_one [ inl none ↦ absurd (omega (arith, is.is_place.from_one)) | inr none ↦ absurd (omega (arith, is.is_place.from_first)) ]

-- ---- codes
pub no_code_number : (word : List ℕ) → ((number : ℕ) → ¬ (IsNumberText number word)) → (failed : Code) → ¬ (IsCodeText failed word)
no_code_number word none failed is = let small = code_small failed in none (code_number failed) (record { small = omega arith; spelled = is.spelled })

pub no_code_at : (number : ℕ) (word : List ℕ) → IsNumberText number word → ((failed : Code) → code_number failed ≢ number) → (failed : Code) → ¬ (IsCodeText failed word)
no_code_at number word is none failed code =
    let small = code_small failed in
    let other = is.small in
    none failed (decimal_injective (code_number failed) number (omega arith) (omega arith) (code.spelled ∙ sym is.spelled))
