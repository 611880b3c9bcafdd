-- What a lead says of the bytes.
use Rattle.std.proofs.Common.{◌≡◌, ◌≢◌, ℕ, Bool, true, false, cond, ◌&&◌, List, [], ◌∷◌, refl, sym, ◌∙◌, arith}
use Rattle.std.proofs.lemmas.Bool.Decides.{nat_tests}
use Rattle.sexpr_reader.specs.declared.lead.Lead.{Lead}
use Rattle.sexpr_reader.specs.declared.lead.Lead.TheVariants.{End, WhiteSpace, Comment, Quote, Number, Other}
use Rattle.sexpr_reader.specs.Bytes.{is_line_byte, is_later_byte}
use Rattle.sexpr_reader.specs.Lead.{begins, lead_of, byte_lead, is_white_space, is_word_byte, is_sign, is_digit}

-- behind a sign a digit makes a number, and else the first byte decides
pub first_byte : (b : ℕ) (bs : List ℕ) → lead_of (b ∷ bs) ≢ Number → lead_of (b ∷ bs) ≡ byte_lead b
first_byte b bs h = two (is_sign b && begins is_digit bs) h where
  two : (t : Bool) → (cond t Number (byte_lead b) ≢ Number) → cond t Number (byte_lead b) ≡ byte_lead b
  two true h = absurd (h refl)
  two false h = refl

white_byte : (b : ℕ) → byte_lead b ≡ WhiteSpace → is_white_space b ≡ true
white_byte b h = grind (arith, nat_tests)

comment_byte : (b : ℕ) → byte_lead b ≡ Comment → b ≡ 59
comment_byte b h = grind (arith, nat_tests)

quote_byte : (b : ℕ) → byte_lead b ≡ Quote → b ≡ 34
quote_byte b h = grind (arith, nat_tests)

pub later_word : (b : ℕ) → is_later_byte b ≡ true → is_word_byte b ≡ true
later_word b h = grind (arith, nat_tests)

-- a lead that is not the end has a byte
pub has_byte : (bs : List ℕ) → lead_of bs ≢ End → (b : ℕ) × (rest : List ℕ) × (bs ≡ b ∷ rest)
has_byte [] h = absurd (h refl)
has_byte (b ∷ bs) h = (b, bs, refl)

by_first : (lead : Lead) (b : ℕ) (bs : List ℕ) → lead_of (b ∷ bs) ≡ lead → lead ≢ Number → byte_lead b ≡ lead
by_first lead b bs h n = sym (first_byte b bs (λ e. n (sym h ∙ e))) ∙ h

pub white_begins : (bs : List ℕ) → lead_of bs ≡ WhiteSpace → begins is_white_space bs ≡ true
white_begins [] h = absurd (cc)
white_begins (b ∷ bs) h = white_byte b (by_first WhiteSpace b bs h (λ e. cc))

pub comment_begins : (bs : List ℕ) → lead_of bs ≡ Comment → begins is_line_byte bs ≡ true
comment_begins [] h = absurd (cc)
comment_begins (b ∷ bs) h = let e : b ≡ 59 = comment_byte b (by_first Comment b bs h (λ x. cc)) in rw e refl

pub quote_begins : (b : ℕ) (bs : List ℕ) → lead_of (b ∷ bs) ≡ Quote → b ≡ 34
quote_begins b bs h = quote_byte b (by_first Quote b bs h (λ e. cc))

pub other_begins : (bs : List ℕ) → lead_of bs ≡ Other → begins is_word_byte bs ≡ true
other_begins [] h = absurd (cc)
other_begins (b ∷ bs) h = rw (by_first Other b bs h (λ e. cc)) refl
