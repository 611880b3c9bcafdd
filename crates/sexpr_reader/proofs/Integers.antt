-- The bytes of an integer.
use Rattle.std.proofs.Common.{◌≡◌, ℕ, ℤ, ◌<◌, Bool, true, false, ◌==◌, cond, List, [], ◌∷◌, ◌++◌, drop, refl, arith}
use Rattle.std.specs.Prelude.{nat_le, ◌&&◌, ◌||◌}
use Rattle.std.specs.List.{list_all}
use Rattle.std.proofs.lemmas.Bool.{and_parts}
use Rattle.std.specs.Str.{IsAscii, IsUtf8}
use Rattle.std.specs.Str.Parse.{AllDigits, IsNumeral}
use Rattle.std.specs.Char.{digit_value}
use Rattle.std.specs.Int.{IsInRange}
use Rattle.std.proofs.lemmas.Bool.Decides.{nat_tests}
use Rattle.std.proofs.lemmas.Str.{IsUtf8-from_ascii}
use Rattle.std.proofs.lemmas.Str.Ascii.{IsAscii-nil, IsAscii-cons}
use Rattle.std.proofs.lemmas.Str.Parse.{digit_from_value}
use Rattle.sexpr_reader.specs.declared.lead.Lead.TheVariants.{Number}
use Rattle.sexpr_reader.specs.Integer.{IsInteger}
use Rattle.sexpr_reader.specs.Lead.{begins, lead_of, byte_lead, is_sign, is_digit, is_word_byte}

-- a digit, + or -
abbrev is_integer_byte : ℕ → Bool
is_integer_byte b = (nat_le 48 b && nat_le b 57) || (b == 43) || (b == 45)

-- a digit is a byte of an integer
digit_passes : (b : ℕ) → digit_value b < 10 → is_integer_byte b ≡ true
digit_passes b h = let r = digit_from_value b h in grind (arith, nat_tests)

digits_pass : (ds : List ℕ) → AllDigits 10 ds → list_all is_integer_byte ds ≡ true
digits_pass [] h = refl
digits_pass (b ∷ ds) h = rw (digit_passes b h.0) (digits_pass ds h.1)

minus_passes : (b : ℕ) → (b == 45) ≡ true → is_integer_byte b ≡ true
minus_passes b h = grind (arith, nat_tests)

plus_passes : (b : ℕ) → (b == 43) ≡ true → is_integer_byte b ≡ true
plus_passes b h = grind (arith, nat_tests)

-- signs and digits alone
signed_pass : (b : ℕ) (bs : List ℕ) (minus plus : Bool) → (b == 45) ≡ minus → (b == 43) ≡ plus
    → AllDigits 10 (cond minus bs (drop (cond plus 1 0) (b ∷ bs))) → list_all is_integer_byte (b ∷ bs) ≡ true
signed_pass b bs true plus m p h = rw (minus_passes b m) (digits_pass bs h)
signed_pass b bs false true m p h = rw (plus_passes b p) (digits_pass bs h)
signed_pass b bs false false m p h = rw (digit_passes b h.0) (digits_pass bs h.1)

IsInteger-bytes : (word : List ℕ) (n : ℤ) → IsInteger word n → list_all is_integer_byte word ≡ true
IsInteger-bytes [] n i = refl
IsInteger-bytes (b ∷ bs) n i = signed_pass b bs (b == 45) (b == 43) refl refl i.digits.1

-- an integer has a byte
pub IsInteger-begins : (word : List ℕ) (n : ℤ) → IsInteger word n → (b : ℕ) × (bs : List ℕ) × (word ≡ b ∷ bs)
IsInteger-begins [] n i = absurd (omega (arith, i.digits.0))
IsInteger-begins (b ∷ bs) n i = (b, bs, refl)

integer_word : (b : ℕ) → is_integer_byte b ≡ true → is_word_byte b ≡ true
integer_word b h = grind (arith, nat_tests)

integer_words : (word : List ℕ) → list_all is_integer_byte word ≡ true → list_all is_word_byte word ≡ true
integer_words [] h = refl
integer_words (b ∷ bs) h =
    let p = and_parts (is_integer_byte b) (list_all is_integer_byte bs) h in rw (integer_word b p.0) (integer_words bs p.1)

-- an integer is a word
pub IsInteger-word : (word : List ℕ) (n : ℤ) → IsInteger word n → list_all is_word_byte word ≡ true
IsInteger-word word n i = integer_words word (IsInteger-bytes word n i)

digit_lead : (b : ℕ) (bs : List ℕ) → digit_value b < 10 → lead_of (b ∷ bs) ≡ Number
digit_lead b bs h = by (is_sign b && begins is_digit bs) (lead b (digit_from_value b h)) where
  lead : (b : ℕ) → IsInRange 48 57 b → byte_lead b ≡ Number
  lead b h = grind (arith, nat_tests)

  by : (t : Bool) → byte_lead b ≡ Number → cond t Number (byte_lead b) ≡ Number
  by true e = refl
  by false e = e

sign_lead : (b d : ℕ) (ds : List ℕ) → is_sign b ≡ true → digit_value d < 10 → lead_of (b ∷ d ∷ ds) ≡ Number
sign_lead b d ds sign h = rw (sign, digit d (digit_from_value d h)) refl where
  digit : (d : ℕ) → IsInRange 48 57 d → is_digit d ≡ true
  digit d h = grind (arith, nat_tests)

minus_sign : (b : ℕ) → (b == 45) ≡ true → is_sign b ≡ true
minus_sign b h = grind (arith, nat_tests)

plus_sign : (b : ℕ) → (b == 43) ≡ true → is_sign b ≡ true
plus_sign b h = grind (arith, nat_tests)

behind_sign : (b : ℕ) (ds rest : List ℕ) → is_sign b ≡ true → IsNumeral 10 ds → lead_of (b ∷ (ds ++ rest)) ≡ Number
behind_sign b [] rest sign h = absurd (omega (arith, h.0))
behind_sign b (d ∷ ds) rest sign h = sign_lead b d (ds ++ rest) sign h.1.0

number_lead : (b : ℕ) (bs rest : List ℕ) (minus plus : Bool) → (b == 45) ≡ minus → (b == 43) ≡ plus
    → IsNumeral 10 (cond minus bs (drop (cond plus 1 0) (b ∷ bs))) → lead_of (b ∷ (bs ++ rest)) ≡ Number
number_lead b bs rest true plus m p h = behind_sign b bs rest (minus_sign b m) h
number_lead b bs rest false true m p h = behind_sign b bs rest (plus_sign b p) h
number_lead b bs rest false false m p h = digit_lead b (bs ++ rest) h.1.0

-- an integer begins a number
pub IsInteger-lead : (word : List ℕ) (n : ℤ) → IsInteger word n → (rest : List ℕ) → lead_of (word ++ rest) ≡ Number
IsInteger-lead [] n i rest = absurd (omega (arith, i.digits.0))
IsInteger-lead (b ∷ bs) n i rest = number_lead b bs rest (b == 45) (b == 43) refl refl i.digits

small : (b : ℕ) → is_integer_byte b ≡ true → b < 128
small b h = grind (arith, nat_tests)

ascii : (word : List ℕ) → list_all is_integer_byte word ≡ true → IsAscii word
ascii [] h = IsAscii-nil
ascii (b ∷ bs) h =
    IsAscii-cons b bs (small b ((and_parts (is_integer_byte b) (list_all is_integer_byte bs) h).0)) (ascii bs ((and_parts (is_integer_byte b) (list_all is_integer_byte bs) h).1))

pub IsInteger-ascii : (word : List ℕ) (n : ℤ) → IsInteger word n → IsAscii word
IsInteger-ascii word n i = ascii word (IsInteger-bytes word n i)

-- an integer is a text
pub IsInteger-utf8 : (word : List ℕ) (n : ℤ) → IsInteger word n → IsUtf8 word
IsInteger-utf8 word n i = IsUtf8-from_ascii word (IsInteger-ascii word n i)
