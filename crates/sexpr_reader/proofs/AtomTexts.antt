-- The text of an atom of a source is read as that atom.
use Rattle.std.proofs.Common.{◌≡◌, ◌≢◌, ◌<◌, ◌≤◌, ◌⊎◌, inl, inr, ℕ, suc, ◌^◌, ℤ, pos, negsuc, neg_ℤ, Bool, true, false, ◌==◌, List, [], ◌∷◌, ◌++◌, length, refl, sym, ◌∙◌, ap, subst, arith, append_assoc}
use Rattle.std.specs.Prelude.{codes, Some, slice_index, FitsSigned}
use Rattle.std.specs.Fmt.{decimal, signed_decimal}
use Rattle.std.specs.Int.{w64}
use Rattle.std.specs.List.{flat_map}
use Rattle.std.specs.Str.{bytes_eq}
use Rattle.std.specs.Str.Parse.{IsNumeral, digits_value}
use Rattle.std.proofs.lemmas.Bool.{cases_eq}
use Rattle.std.proofs.lemmas.Bool.Decides.{nat_tests}
use Rattle.std.proofs.lemmas.Fmt.{decimal_digit, decimal_is_IsNumeral, first_decimal}
use Rattle.std.proofs.lemmas.Slice.Eq.{bytes_eq-Decides}
use Rattle.std.proofs.lemmas.Str.Parse.{digit_from_value}
use Rattle.value_core.specs.Place.{Spot}
use Rattle.value_core.specs.Texts.{escaped, quoted}
use Rattle.sexpr_reader.specs.declared.lead.Lead.{Lead}
use Rattle.sexpr_reader.specs.declared.lead.Lead.TheVariants.{Other}
use Rattle.sexpr_reader.specs.declared.token.Atom.{Atom}
use Rattle.sexpr_reader.specs.declared.token.Atom.TheVariants.{Int, Kw, Str}
use Rattle.sexpr_reader.specs.declared.token.TokenKind.{TokenKind}
use Rattle.sexpr_reader.specs.declared.token.TokenKind.TheVariants.{Atom as AtomKind}
use Rattle.sexpr_reader.specs.Bytes.{is_name_byte}
use Rattle.sexpr_reader.specs.Cursor.{Cursor, next_spot, after, Over}
use Rattle.sexpr_reader.specs.Forms.{atom_kind}
use Rattle.sexpr_reader.specs.Integer.{IsInteger}
use Rattle.sexpr_reader.specs.Lead.{begins, lead_of, is_digit, is_word_byte}
use Rattle.sexpr_reader.specs.Names.{IsName}
use Rattle.sexpr_reader.specs.Runs.{IsRun}
use Rattle.sexpr_reader.specs.Spelling.{kind_text}
use Rattle.sexpr_reader.specs.Strings.{unescaped, Written, Content}
use Rattle.sexpr_reader.specs.Tokens.{Begins, named}
use Rattle.sexpr_reader.proofs.Cursors.{after-append}
use Rattle.sexpr_reader.proofs.Found.{cursor, byte_on}
use Rattle.sexpr_reader.proofs.FormFolds.{kind_text-Str, kind_text-Int, kind_text-Kw, kind_text-Sym, kind_text-Bool, kind_text-Nil}
use Rattle.sexpr_reader.proofs.Integers.{IsInteger-word, IsInteger-lead}
use Rattle.sexpr_reader.proofs.Same.{name_word}

-- a text before others
pub text_on : (at : Spot) (text rest : List ℕ) → Over text (cursor at (text ++ rest)) (cursor (after at text) rest)
text_on at text rest = record { bytes = refl; place = refl }

-- such a lead begins a token of that kind, behind which so much is left
pub record ReadsAs (c : Cursor) (kind : TokenKind) (rest : List ℕ) : Type 0 where
  pub behind : Spot
  pub is : Begins (lead_of c.rest) c kind (cursor behind rest)

abbrev pub Reading : List ℕ → TokenKind → Type 0
Reading text kind = (at : Spot) (rest : List ℕ) → begins is_word_byte rest ≡ false → ReadsAs (cursor at (text ++ rest)) kind rest

-- strings: a byte stands for itself, or has an escape
pub data EscapedAs (b : ℕ) : Type 0 where
  plain : b ≢ 34 → b ≢ 92 → escaped b ≡ b ∷ [] → EscapedAs b
  escape : (e : ℕ) → unescaped e ≡ Some b → escaped b ≡ 92 ∷ e ∷ [] → EscapedAs b

escaped_plain : (b : ℕ) → b ≢ 34 → b ≢ 92 → b ≢ 10 → b ≢ 9 → b ≢ 13 → b ≢ 12 → b ≢ 8 → escaped b ≡ b ∷ []
escaped_plain b p q r s t u v = grind (arith, nat_tests)

abbrev Is : ℕ → ℕ → Type 0
Is b x = (b ≡ x) ⊎ (b ≡ x → ⊥)

escaped_by : (b : ℕ) → Is b 34 → Is b 92 → Is b 10 → Is b 9 → Is b 13 → Is b 12 → Is b 8 → EscapedAs b
escaped_by b (inl e) q r s t u v = rw e (EscapedAs.escape 34 refl refl)
escaped_by b (inr p) (inl e) r s t u v = rw e (EscapedAs.escape 92 refl refl)
escaped_by b (inr p) (inr q) (inl e) s t u v = rw e (EscapedAs.escape 110 refl refl)
escaped_by b (inr p) (inr q) (inr r) (inl e) t u v = rw e (EscapedAs.escape 116 refl refl)
escaped_by b (inr p) (inr q) (inr r) (inr s) (inl e) u v = rw e (EscapedAs.escape 114 refl refl)
escaped_by b (inr p) (inr q) (inr r) (inr s) (inr t) (inl e) v = rw e (EscapedAs.escape 102 refl refl)
escaped_by b (inr p) (inr q) (inr r) (inr s) (inr t) (inr u) (inl e) = rw e (EscapedAs.escape 98 refl refl)
escaped_by b (inr p) (inr q) (inr r) (inr s) (inr t) (inr u) (inr v) = EscapedAs.plain p q (escaped_plain b p q r s t u v)

pub escaped_as : (b : ℕ) → EscapedAs b
escaped_as b = escaped_by b (cases_eq b 34) (cases_eq b 92) (cases_eq b 10) (cases_eq b 9) (cases_eq b 13) (cases_eq b 12) (cases_eq b 8)

written_again : (b : ℕ) (at : Spot) (rest : List ℕ) → EscapedAs b → Written (cursor at (escaped b ++ rest)) b (cursor (after at (escaped b)) rest)
written_again b at rest (EscapedAs.plain p q e) = rw e (Written.plain p q (text_on at (b ∷ []) rest))
written_again b at rest (EscapedAs.escape x f e) = rw e (Written.escape x f (text_on at (92 ∷ x ∷ []) rest))

after_nothing : (at : Spot) → after at [] ≡ at
unfolding after
after_nothing at = refl

content_again : (text : List ℕ) (at : Spot) (rest : List ℕ) → Content (cursor at (flat_map escaped text ++ rest)) text (cursor (after at (flat_map escaped text)) rest)
content_again [] at rest = rw (after_nothing at) Content.none
content_again (b ∷ text) at rest =
    let tail = flat_map escaped text in
    let first = written_again b at (tail ++ rest) (escaped_as b) in
    let others = content_again text (after at (escaped b)) rest in
    rw (append_assoc (escaped b) tail rest, after-append at (escaped b) tail) (Content.more first others)

pub quoted_again : (text : List ℕ) → Reading (quoted text) (AtomKind (Str text))
quoted_again text at rest ends =
    let inner = flat_map escaped text in
    let whole : ReadsAs (cursor at (34 ∷ inner ++ 34 ∷ rest)) (AtomKind (Str text)) rest = record {
      behind = next_spot (after (next_spot at 34) inner) 34;
      is = Begins.string text (record {
        inside = cursor (next_spot at 34) (inner ++ 34 ∷ rest);
        close = cursor (after (next_spot at 34) inner) (34 ∷ rest);
        opens = byte_on at 34 (inner ++ 34 ∷ rest);
        content = content_again text (next_spot at 34) (34 ∷ rest);
        closes = byte_on (after (next_spot at 34) inner) 34 rest;
      });
    } in
    subst (λ x. ReadsAs (cursor at (34 ∷ x)) (AtomKind (Str text)) rest) (sym (append_assoc inner (34 ∷ []) rest)) whole

-- integers
digit_minus : (d : ℕ) → 48 ≤ d → (d == 45) ≡ false
digit_minus d h = grind (arith, nat_tests)

digit_plus : (d : ℕ) → 48 ≤ d → (d == 43) ≡ false
digit_plus d h = grind (arith, nat_tests)

digits_integer : (ds : List ℕ) (n : ℕ) → IsNumeral 10 ds → digits_value 10 ds ≡ n → (slice_index ds 0 ≡ 48 → length ds ≡ 1) → FitsSigned w64 (pos n) → IsInteger ds (pos n)
digits_integer [] n h value short fits = absurd (omega (arith, h.0))
digits_integer (d ∷ ds) n h value short fits =
    let minus = digit_minus d ((digit_from_value d h.1.0).0) in
    let plus = digit_plus d ((digit_from_value d h.1.0).0) in
    record { digits = rw (minus, plus) h; shortest = rw (minus, plus) short; value = rw (minus, plus) (ap pos value); fits = fits }

minus_integer : (ds : List ℕ) (n : ℕ) → IsNumeral 10 ds → digits_value 10 ds ≡ suc n → (slice_index ds 0 ≡ 48 → length ds ≡ 1) → FitsSigned w64 (negsuc n) → IsInteger (45 ∷ ds) (negsuc n)
minus_integer ds n h value short fits = record { digits = h; shortest = short; value = ap (λ x. neg_ℤ (pos x)) value; fits = fits }

decimal_short : (n : ℕ) → n < 2 ^ 64 → slice_index (decimal n) 0 ≡ 48 → length (decimal n) ≡ 1
decimal_short n small begins_zero = by (cases_eq n 0) where
  by : (n ≡ 0) ⊎ (n ≡ 0 → ⊥) → length (decimal n) ≡ 1
  by (inl e) = rw e (ap length (decimal_digit 0 (omega arith)))
  by (inr e) = absurd (let n_pos : 0 < n = omega arith in omega (arith, first_decimal n n_pos small, begins_zero))

signed_integer : (n : ℤ) → FitsSigned w64 n → IsInteger (signed_decimal n) n
signed_integer (pos n) fits =
    let small : n < 2 ^ 64 = omega (arith, fits.sfits) in
    let d = decimal_is_IsNumeral n small in
    digits_integer (decimal n) n d.0 d.1 (decimal_short n small) fits
signed_integer (negsuc n) fits =
    let small : suc n < 2 ^ 64 = omega (arith, fits.sfits) in
    let d = decimal_is_IsNumeral (suc n) small in
    minus_integer (decimal (suc n)) n d.0 d.1 (decimal_short (suc n) small) fits

pub int_again : (n : ℤ) → FitsSigned w64 n → Reading (signed_decimal n) (AtomKind (Int n))
int_again n fits at rest ends =
    let word = signed_decimal n in
    let i = signed_integer n fits in
    let run : IsRun is_word_byte word (cursor at (word ++ rest)) (cursor (after at word) rest) = record { spans = record { each = IsInteger-word word n i; over = text_on at word rest }; ends = ends } in
    record { behind = after at word; is = rw (IsInteger-lead word n i rest) (Begins.number n (record { word = word; run = run; integer = i })) }

-- names
no_digit : (bs : List ℕ) → begins is_word_byte bs ≡ false → begins is_digit bs ≡ false
no_digit [] h = refl
no_digit (b ∷ bs) h = by_test (is_digit b) refl where
  word : (b : ℕ) → is_digit b ≡ true → is_word_byte b ≡ true
  word b h = grind (arith, nat_tests)

  by_test : (t : Bool) → is_digit b ≡ t → is_digit b ≡ false
  by_test true e = absurd (let x = word b e in cc)
  by_test false e = e

-- behind a word a lead sees nothing
lead_front : (b : ℕ) (bs x y : List ℕ) → begins is_word_byte x ≡ false → begins is_word_byte y ≡ false → lead_of (b ∷ (bs ++ x)) ≡ lead_of (b ∷ (bs ++ y))
lead_front b [] x y h k = rw (no_digit x h, no_digit y k) refl
lead_front b (e ∷ bs) x y h k = refl

record Named (name : List ℕ) : Type 0 where
  byte : ℕ
  bytes : List ℕ
  whole : name ≡ byte ∷ bytes
  first : is_name_byte byte ≡ true

named_of : (name : List ℕ) {c d : Cursor} → IsName c name d → Named name
named_of [] {c} {d} n =
    let same : c.rest ≡ d.rest = n.word.spans.over.bytes in
    let word : begins is_word_byte d.rest ≡ true = name_word d.rest (rw (← same) n.first) in
    absurd (let x = n.word.ends in cc)
named_of (b ∷ bs) {c} {d} n = record { byte = b; bytes = bs; whole = refl; first = rw n.word.spans.over.bytes at n.first }

name_again : (name : List ℕ) {c d : Cursor} → IsName c name d → (at : Spot) (rest : List ℕ) → begins is_word_byte rest ≡ false → IsName (cursor at (name ++ rest)) name (cursor (after at name) rest)
name_again name n at rest ends =
    let f = named_of name n in
    record {
      first = rw f.whole f.first;
      word = record { spans = record { each = n.word.spans.each; over = text_on at name rest }; ends = ends };
      fits = n.fits;
    }

symbol_lead : (name : List ℕ) {c d : Cursor} → IsName c name d → lead_of c.rest ≡ Other → (rest : List ℕ) → begins is_word_byte rest ≡ false → lead_of (name ++ rest) ≡ Other
symbol_lead name {c} {d} n other rest ends =
    let f = named_of name n in
    let before : lead_of (name ++ d.rest) ≡ Other = rw n.word.spans.over.bytes at other in
    let whole : lead_of (f.byte ∷ (f.bytes ++ d.rest)) ≡ Other = rw f.whole at before in
    rw f.whole (lead_front f.byte f.bytes rest d.rest ends n.word.ends ∙ whole)

pub symbol_again : (name : List ℕ) {c d : Cursor} → IsName c name d → lead_of c.rest ≡ Other → Reading name (AtomKind (named name))
symbol_again name n other at rest ends =
    record { behind = after at name; is = rw (symbol_lead name n other rest ends) (Begins.symbol name (name_again name n at rest ends)) }

keyword_again : (name : List ℕ) {c d : Cursor} → IsName c name d → Reading (codes ":" ++ name) (AtomKind (Kw name))
keyword_again name n at rest ends = record {
  behind = after (next_spot at 58) name;
  is = Begins.keyword name (record { behind = cursor (next_spot at 58) (name ++ rest); colon = record { byte = 58; over = byte_on at 58 (name ++ rest) }; is = name_again name n (next_spot at 58) rest ends });
}

-- the text of what a name is, is the name
pub named_text : (name : List ℕ) → kind_text (atom_kind (named name)) ≡ name
named_text name = by (bytes_eq name (codes "nil")) (bytes_eq name (codes "true")) (bytes_eq name (codes "false")) refl refl refl where
  by : (x y z : Bool) → bytes_eq name (codes "nil") ≡ x → bytes_eq name (codes "true") ≡ y → bytes_eq name (codes "false") ≡ z → kind_text (atom_kind (named name)) ≡ name
  by true y z e f g = rw e (kind_text-Nil ∙ sym ((bytes_eq-Decides name (codes "nil")).0 e))
  by false true z e f g = rw (e, f) (kind_text-Bool true ∙ sym ((bytes_eq-Decides name (codes "true")).0 f))
  by false false true e f g = rw (e, f, g) (kind_text-Bool false ∙ sym ((bytes_eq-Decides name (codes "false")).0 g))
  by false false false e f g = rw (e, f, g) (kind_text-Sym name)

-- an atom
pub atom_again : {l : Lead} {c d : Cursor} {k : TokenKind} (a : Atom) → Begins l c k d → l ≡ lead_of c.rest → k ≡ AtomKind a → Reading (kind_text (atom_kind a)) (AtomKind a)
atom_again a (Begins.opening g o) e is = absurd (cc)
atom_again a (Begins.closing g o) e is = absurd (cc)
atom_again a (Begins.string text s) e is =
    let same : Str text ≡ a = cc in
    subst (λ x. Reading (kind_text (atom_kind x)) (AtomKind x)) same (rw (kind_text-Str text) (quoted_again text))
atom_again a (Begins.number n s) e is =
    let same : Int n ≡ a = cc in
    subst (λ x. Reading (kind_text (atom_kind x)) (AtomKind x)) same (rw (kind_text-Int n) (int_again n s.integer.fits))
atom_again a (Begins.keyword name s) e is =
    let same : Kw name ≡ a = cc in
    subst (λ x. Reading (kind_text (atom_kind x)) (AtomKind x)) same (rw (kind_text-Kw name) (keyword_again name s.is))
atom_again a (Begins.symbol name s) e is =
    let same : named name ≡ a = cc in
    subst (λ x. Reading (kind_text (atom_kind x)) (AtomKind x)) same (rw (named_text name) (symbol_again name s (sym e)))
