-- Integers: an optional sign, then 0 or a digit from 1 to 9 followed by digits, within 64 bits.
use Rattle.std.specs.Prelude.{◌≡◌, ℕ, ℤ, List, length, slice_index, FitsSigned}
use Rattle.std.specs.Int.{w64}
use Rattle.std.specs.Str.Parse.{IsNumeral, without_leading_sign, signed_digits_value}

-- the word spells the number; 48 is the digit 0
pub record IsInteger (word : List ℕ) (n : ℤ) : Type 0 where
  pub digits : IsNumeral 10 (without_leading_sign word)
  pub shortest : slice_index (without_leading_sign word) 0 ≡ 48 → length (without_leading_sign word) ≡ 1
  pub value : signed_digits_value 10 word ≡ n
  pub fits : FitsSigned w64 n
