-- Which bytes numbers and names are written with.
use Rattle.std.proofs.Common.{◌≡◌, ℕ, suc, ◌<◌, ◌^◌, true, false, List, [], ◌∷◌, All, refl, arith, inl, inr, ◌⊎◌}
use Rattle.std.specs.Fmt.{decimal}
use Rattle.std.specs.Int.{IsInRange}
use Rattle.std.specs.Str.Parse.{AllDigits}
use Rattle.std.proofs.lemmas.Fmt.{decimal_is_IsNumeral}
use Rattle.std.proofs.lemmas.Str.Parse.{tells_digits}
use Rattle.std.proofs.lemmas.Bool.Decides.{nat_tests}
use Rattle.serial_model.specs.Trace.{IsName}
use Rattle.value_core.specs.Name.{name_text}
use Rattle.trace_text.specs.Cut.{is_mark, is_without}
use Rattle.trace_text.proofs.Cuts.{without_more, without_append}

-- the byte is no digit
abbrev pub IsNoDigit : ℕ → Type 0
IsNoDigit mark = (mark < 48) ⊎ (57 < mark)

other_byte : (mark byte : ℕ) → IsNoDigit mark → IsInRange 48 57 byte → is_mark mark byte ≡ false
other_byte mark byte (inl below) digit = grind (arith, nat_tests)
other_byte mark byte (inr above) digit = grind (arith, nat_tests)

digits_without : (mark : ℕ) (ds : List ℕ) → IsNoDigit mark → AllDigits 10 ds → is_without mark ds ≡ true
digits_without mark [] other all = refl
digits_without mark (d ∷ ds) other all =
    let parts = tells_digits.parts d ds all in
    without_more mark d ds (other_byte mark d other parts.0) (digits_without mark ds other parts.1)

pub decimal_without : (mark n : ℕ) → IsNoDigit mark → n < 2 ^ 64 → is_without mark (decimal n) ≡ true
decimal_without mark n other small = digits_without mark (decimal n) other ((decimal_is_IsNumeral n small).0.1)

numbers_without : (mark : ℕ) (ns : List ℕ) → IsNoDigit mark → is_mark mark 46 ≡ false → All (λ n. n < 2 ^ 32) ns → is_without mark (name_text ns) ≡ true
numbers_without mark [] other dot all = refl
numbers_without mark (n ∷ []) other dot all = decimal_without mark n other (let small = all 0 0 (omega arith) in omega arith)
numbers_without mark (n ∷ m ∷ ns) other dot all =
    without_append mark (decimal n) (46 ∷ name_text (m ∷ ns)) (decimal_without mark n other (let small = all 0 0 (omega arith) in omega arith))
    (without_more mark 46 (name_text (m ∷ ns)) dot (numbers_without mark (m ∷ ns) other dot (λ k d lt. all (suc k) d (omega arith))))

pub name_without : (mark : ℕ) (ns : List ℕ) → IsNoDigit mark → is_mark mark 46 ≡ false → IsName ns → is_without mark (name_text ns) ≡ true
name_without mark ns other dot is = numbers_without mark ns other dot is.in_range
