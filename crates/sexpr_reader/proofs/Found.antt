-- From each cursor there is a token, the end, or a reason why neither is there.
use Rattle.std.proofs.Common.{◌≡◌, ◌≢◌, ◌<◌, ◌≤◌, ◌⊎◌, inl, inr, ℕ, zero, suc, ◌^◌, ℤ, Bool, true, false, List, [], ◌∷◌, length, refl, sym, ◌∙◌, subst, arith}
use lib.Signed.{mag}
use Rattle.std.specs.Prelude.{Option, None, Some, slice_index, FitsSigned}
use Rattle.std.specs.Int.{w64}
use Rattle.std.specs.Char.{digit_value}
use Rattle.std.specs.Str.Parse.{AllDigits, IsNumeral, without_leading_sign, signed_digits_value}
use Rattle.std.proofs.lemmas.Bool.{cases_lt, cases_eq}
use Rattle.std.proofs.lemmas.Bool.Decides.{nat_tests}
use Rattle.value_core.specs.Place.{Spot}
use Rattle.sexpr_reader.specs.declared.error.ReadKind.{ReadKind}
use Rattle.sexpr_reader.specs.declared.error.ReadKind.TheVariants.{BadString, Unclosed, BadByte, BadNumber}
use Rattle.sexpr_reader.specs.declared.lead.Class.{Class}
use Rattle.sexpr_reader.specs.declared.lead.Lead.{Lead}
use Rattle.sexpr_reader.specs.declared.lead.Lead.TheVariants.{End, WhiteSpace, Comment, Open, Close, Quote, Colon, Number, Other}
use Rattle.sexpr_reader.specs.declared.token.Token.{Token}
use Rattle.sexpr_reader.specs.declared.token.TokenKind.{TokenKind}
use Rattle.sexpr_reader.specs.declared.token.TokenKind.TheVariants.{Open as OpenKind, Close as CloseKind, Atom as AtomKind}
use Rattle.sexpr_reader.specs.declared.token.Atom.TheVariants.{Int, Kw, Str}
use Rattle.sexpr_reader.specs.Bytes.{has, is_name_byte, is_later_byte}
use Rattle.sexpr_reader.specs.Cursor.{Cursor, next_spot, after, Over}
use Rattle.sexpr_reader.specs.Gap.{Gap}
use Rattle.sexpr_reader.specs.Integer.{IsInteger}
use Rattle.sexpr_reader.specs.Lead.{begins, lead_of, byte_lead, is_word_byte}
use Rattle.sexpr_reader.specs.Names.{IsName, Misfit}
use Rattle.sexpr_reader.specs.Runs.{IsRun}
use Rattle.sexpr_reader.specs.Steps.{gap_class}
use Rattle.sexpr_reader.specs.Strings.{unescaped, Written, Content, StringStops}
use Rattle.sexpr_reader.specs.Tokens.{OneByte, Begins, Fails, named, IsToken, IsEnd, IsNoToken}
use Rattle.sexpr_reader.proofs.Cursors.{Over-none, Over-append}
use Rattle.sexpr_reader.proofs.Leads.{first_byte, other_begins, quote_begins}
use Rattle.sexpr_reader.proofs.Lexing.{Gap-step, Gap-shorter, name_found}

abbrev pub cursor : Spot → List ℕ → Cursor
cursor at rest = record { at = at; rest = rest }

-- one byte on
pub byte_on : (at : Spot) (b : ℕ) (bs : List ℕ) → Over (b ∷ []) (cursor at (b ∷ bs)) (cursor (next_spot at b) bs)
unfolding after
byte_on at b bs = record { bytes = refl; place = refl }

-- the longest run of bytes that pass a test
pub record Run (test : ℕ → Bool) (c : Cursor) : Type 0 where
  pub text : List ℕ
  pub behind : Cursor
  pub is : IsRun test text c behind

run_by : (test : ℕ → Bool) (t : Bool) (at : Spot) (b : ℕ) (bs : List ℕ) → test b ≡ t → Run test (cursor (next_spot at b) bs) → Run test (cursor at (b ∷ bs))
run_by test false at b bs e r = record { text = []; behind = cursor at (b ∷ bs); is = record { spans = record { each = refl; over = Over-none (cursor at (b ∷ bs)) }; ends = e } }
run_by test true at b bs e r = record {
  text = b ∷ r.text;
  behind = r.behind;
  is = record { spans = record { each = rw e r.is.spans.each; over = Over-append (b ∷ []) r.text (byte_on at b bs) r.is.spans.over }; ends = r.is.ends };
}

pub run_from : (test : ℕ → Bool) (at : Spot) (bs : List ℕ) → Run test (cursor at bs)
run_from test at [] = record { text = []; behind = cursor at []; is = record { spans = record { each = refl; over = Over-none (cursor at []) }; ends = refl } }
run_from test at (b ∷ bs) = run_by test (test b) at b bs refl (run_from test (next_spot at b) bs)

pub run_at : (test : ℕ → Bool) (c : Cursor) → Run test c
run_at test c = run_from test c.at c.rest

-- where what separates ends
record GapEnd (c : Cursor) : Type 0 where
  behind : Cursor
  gap : Gap c behind
  none : gap_class (lead_of behind.rest) ≡ None

gap_by : (c : Cursor) (o : Option Class) → gap_class (lead_of c.rest) ≡ o → ((m : Cursor) → length m.rest < length c.rest → GapEnd m) → GapEnd c
gap_by c None e next = record { behind = c; gap = Gap.nothing; none = e }
gap_by c (Some k) e next =
    let r = run_at (has k) c in
    let g = next r.behind (Gap-shorter (lead_of c.rest) k r.text refl e r.is) in
    record { behind = g.behind; gap = Gap-step (lead_of c.rest) k r.text refl e r.is g.gap; none = g.none }

gap_below : (n : ℕ) (c : Cursor) → length c.rest < n → GapEnd c
gap_below zero c h = absurd (omega arith)
gap_below (suc n) c h = gap_by c (gap_class (lead_of c.rest)) refl (λ m s. gap_below n m (omega arith))

-- a word is an integer, or it is none
digits_or_not : (ds : List ℕ) → AllDigits 10 ds ⊎ (AllDigits 10 ds → ⊥)
digits_or_not [] = inl tt
digits_or_not (d ∷ ds) = both (cases_lt (digit_value d) 10) (digits_or_not ds) where
  both : ((digit_value d < 10) ⊎ (10 ≤ digit_value d)) → AllDigits 10 ds ⊎ (AllDigits 10 ds → ⊥) → AllDigits 10 (d ∷ ds) ⊎ (AllDigits 10 (d ∷ ds) → ⊥)
  both (inl a) (inl b) = inl (a, b)
  both (inl a) (inr b) = inr (λ h. b h.1)
  both (inr a) (inl b) = inr (λ h. omega (arith, h.0))
  both (inr a) (inr b) = inr (λ h. b h.1)

numeral_or_not : (ds : List ℕ) → IsNumeral 10 ds ⊎ (IsNumeral 10 ds → ⊥)
numeral_or_not [] = inr (λ h. omega (arith, h.0))
numeral_or_not (d ∷ ds) = by (digits_or_not (d ∷ ds)) where
  by : AllDigits 10 (d ∷ ds) ⊎ (AllDigits 10 (d ∷ ds) → ⊥) → IsNumeral 10 (d ∷ ds) ⊎ (IsNumeral 10 (d ∷ ds) → ⊥)
  by (inl a) = inl (omega arith, a)
  by (inr a) = inr (λ h. a h.1)

implied_or_not : (a b c d : ℕ) → (a ≡ b → c ≡ d) ⊎ ((a ≡ b → c ≡ d) → ⊥)
implied_or_not a b c d = by (cases_eq a b) (cases_eq c d) where
  by : (a ≡ b) ⊎ (a ≡ b → ⊥) → (c ≡ d) ⊎ (c ≡ d → ⊥) → (a ≡ b → c ≡ d) ⊎ ((a ≡ b → c ≡ d) → ⊥)
  by p (inl q) = inl (λ e. q)
  by (inl p) (inr q) = inr (λ h. q (h p))
  by (inr p) (inr q) = inl (λ e. absurd (p e))

fits_or_not : (z : ℤ) → FitsSigned w64 z ⊎ (FitsSigned w64 z → ⊥)
fits_or_not z = by (cases_lt (mag z) (2 ^ 63)) where
  by : ((mag z < 2 ^ 63) ⊎ (2 ^ 63 ≤ mag z)) → FitsSigned w64 z ⊎ (FitsSigned w64 z → ⊥)
  by (inl a) = inl (record { sfits = a })
  by (inr a) = inr (λ h. omega (arith, a, h.sfits))

pub integer_or_not : (word : List ℕ) → ((n : ℤ) × IsInteger word n) ⊎ ((n : ℤ) → IsInteger word n → ⊥)
integer_or_not word =
    by (numeral_or_not (without_leading_sign word)) (implied_or_not (slice_index (without_leading_sign word) 0) 48 (length (without_leading_sign word)) 1)
    (fits_or_not (signed_digits_value 10 word)) where
      by : IsNumeral 10 (without_leading_sign word) ⊎ (IsNumeral 10 (without_leading_sign word) → ⊥)
          → (slice_index (without_leading_sign word) 0 ≡ 48 → length (without_leading_sign word) ≡ 1) ⊎ ((slice_index (without_leading_sign word) 0 ≡ 48 → length (without_leading_sign word) ≡ 1) → ⊥)
          → FitsSigned w64 (signed_digits_value 10 word) ⊎ (FitsSigned w64 (signed_digits_value 10 word) → ⊥)
          → ((n : ℤ) × IsInteger word n) ⊎ ((n : ℤ) → IsInteger word n → ⊥)
      by (inl a) (inl b) (inl f) = inl (signed_digits_value 10 word, record { digits = a; shortest = b; value = refl; fits = f })
      by (inr a) b f = inr (λ n i. a i.digits)
      by (inl a) (inr b) f = inr (λ n i. b i.shortest)
      by (inl a) (inl b) (inr f) = inr (λ n i. f (rw i.value i.fits))

-- a word is a name, or a byte of it does not fit
record NameFound (c : Cursor) : Type 0 where
  name : List ℕ
  behind : Cursor
  is : IsName c name behind

record MisfitFound (c : Cursor) : Type 0 where
  at : Spot
  is : Misfit c at

name_or_misfit : (c : Cursor) → begins is_word_byte c.rest ≡ true → NameFound c ⊎ MisfitFound c
name_or_misfit c word = by_first (begins is_name_byte c.rest) refl where
  r : Run is_later_byte c
  r = run_at is_later_byte c

  by_end : (t : Bool) → begins is_name_byte c.rest ≡ true → begins is_word_byte r.behind.rest ≡ t → NameFound c ⊎ MisfitFound c
  by_end true first e = inr (record { at = r.behind.at; is = Misfit.later r.text first r.is e })
  by_end false first e = inl (record { name = r.text; behind = r.behind; is = name_found r.text r.text refl first r.is e })

  by_first : (t : Bool) → begins is_name_byte c.rest ≡ t → NameFound c ⊎ MisfitFound c
  by_first false e = inr (record { at = c.at; is = Misfit.first word e })
  by_first true e = by_end (begins is_word_byte r.behind.rest) e refl

-- the bytes of a string go up to its quote, or up to what stops it
record Closed (c : Cursor) : Type 0 where
  text : List ℕ
  close : Cursor
  behind : Cursor
  content : Content c text close
  closes : Over (34 ∷ []) close behind

record Stopped (quote : Spot) (c : Cursor) : Type 0 where
  text : List ℕ
  stop : Cursor
  kind : ReadKind
  at : Spot
  content : Content c text stop
  stops : StringStops quote stop kind at

abbrev Ending : Spot → Cursor → Type 0
Ending quote c = Closed c ⊎ Stopped quote c

longer : {quote : Spot} {c m : Cursor} {b : ℕ} → Written c b m → Ending quote m → Ending quote c
longer {b} w (inl r) = inl (record { text = b ∷ r.text; close = r.close; behind = r.behind; content = Content.more w r.content; closes = r.closes })
longer {b} w (inr r) = inr (record { text = b ∷ r.text; stop = r.stop; kind = r.kind; at = r.at; content = Content.more w r.content; stops = r.stops })

escape_by : (quote at : Spot) (e : ℕ) (es : List ℕ) (found : Option ℕ) → unescaped e ≡ found → ((m : Cursor) → length m.rest < suc (suc (length es)) → Ending quote m)
    → Ending quote (cursor at (92 ∷ e ∷ es))
escape_by quote at e es None h next =
    inr (record { text = []; stop = cursor at (92 ∷ e ∷ es); kind = BadString; at = at; content = Content.none; stops = inr (inr (e, es, refl, h, refl, refl)) })
escape_by quote at e es (Some x) h next =
    let two = Over-append (92 ∷ []) (e ∷ []) (byte_on at 92 (e ∷ es)) (byte_on (next_spot at 92) e es) in
    longer (Written.escape e h two) (next (cursor (next_spot (next_spot at 92) e) es) (omega arith))

backslash_by : (quote at : Spot) (bs : List ℕ) → ((m : Cursor) → length m.rest < suc (length bs) → Ending quote m) → Ending quote (cursor at (92 ∷ bs))
backslash_by quote at [] next =
    inr (record { text = []; stop = cursor at (92 ∷ []); kind = Unclosed; at = quote; content = Content.none; stops = inr (inl (refl, refl, refl)) })
backslash_by quote at (e ∷ es) next = escape_by quote at e es (unescaped e) refl next

content_by : (quote at : Spot) (bs : List ℕ) → ((m : Cursor) → length m.rest < length bs → Ending quote m) → Ending quote (cursor at bs)
content_by quote at [] next =
    inr (record { text = []; stop = cursor at []; kind = Unclosed; at = quote; content = Content.none; stops = inl (refl, refl, refl) })
content_by quote at (b ∷ bs) next = by (cases_eq b 34) (cases_eq b 92) where
  by : (b ≡ 34) ⊎ (b ≡ 34 → ⊥) → (b ≡ 92) ⊎ (b ≡ 92 → ⊥) → Ending quote (cursor at (b ∷ bs))
  by (inl q) s = rw q (inl (record { text = []; close = cursor at (34 ∷ bs); behind = cursor (next_spot at 34) bs; content = Content.none; closes = byte_on at 34 bs }))
  by (inr q) (inl s) = rw s (backslash_by quote at bs next)
  by (inr q) (inr s) = longer (Written.plain q s (byte_on at b bs)) (next (cursor (next_spot at b) bs) (omega arith))

content_below : (quote : Spot) (n : ℕ) (c : Cursor) → length c.rest < n → Ending quote c
content_below quote zero c h = absurd (omega arith)
content_below quote (suc n) c h = content_by quote c.at c.rest (λ m s. content_below quote n m (omega arith))

-- a lead begins a token, or fails to
record Begun (l : Lead) (c : Cursor) : Type 0 where
  kind : TokenKind
  behind : Cursor
  is : Begins l c kind behind

record Failed (l : Lead) (c : Cursor) : Type 0 where
  kind : ReadKind
  at : Spot
  is : Fails l c kind at

record One (c : Cursor) : Type 0 where
  behind : Cursor
  is : OneByte c behind

one_from : (at : Spot) (bs : List ℕ) → lead_of bs ≢ End → One (cursor at bs)
one_from at [] h = absurd (h refl)
one_from at (b ∷ bs) h = record { behind = cursor (next_spot at b) bs; is = record { byte = b; over = byte_on at b bs } }

record QuoteByte (c : Cursor) : Type 0 where
  behind : Cursor
  over : Over (34 ∷ []) c behind

quote_from : (at : Spot) (bs : List ℕ) → lead_of bs ≡ Quote → QuoteByte (cursor at bs)
quote_from at [] h = absurd (cc)
quote_from at (b ∷ bs) h =
    let is : b ≡ 34 = quote_begins b bs h in
    record { behind = cursor (next_spot at b) bs; over = subst (λ x. Over (x ∷ []) (cursor at (b ∷ bs)) (cursor (next_spot at b) bs)) is (byte_on at b bs) }

string_by : (c : Cursor) (q : QuoteByte c) → Ending c.at q.behind → Begun Quote c ⊎ Failed Quote c
string_by c q (inl r) = inl (record { kind = AtomKind (Str r.text); behind = r.behind; is = Begins.string r.text (record { inside = q.behind; close = r.close; opens = q.over; content = r.content; closes = r.closes }) })
string_by c q (inr r) = inr (record { kind = r.kind; at = r.at; is = Fails.string (record { inside = q.behind; stop = r.stop; text = r.text; opens = q.over; content = r.content; stops = r.stops }) })

number_by : (c : Cursor) (r : Run is_word_byte c) → ((n : ℤ) × IsInteger r.text n) ⊎ ((n : ℤ) → IsInteger r.text n → ⊥) → Begun Number c ⊎ Failed Number c
number_by c r (inl i) = inl (record { kind = AtomKind (Int i.0); behind = r.behind; is = Begins.number i.0 (record { word = r.text; run = r.is; integer = i.1 }) })
number_by c r (inr n) = inr (record { kind = BadNumber; at = c.at; is = Fails.number r.text r.is n })

keyword_by : (c : Cursor) (o : One c) (t : Bool) → begins is_word_byte o.behind.rest ≡ t → Begun Colon c ⊎ Failed Colon c
keyword_by c o false e = inr (record { kind = BadByte; at = c.at; is = Fails.colon o.is e })
keyword_by c o true e = by (name_or_misfit o.behind e) where
  by : NameFound o.behind ⊎ MisfitFound o.behind → Begun Colon c ⊎ Failed Colon c
  by (inl n) = inl (record { kind = AtomKind (Kw n.name); behind = n.behind; is = Begins.keyword n.name (record { behind = o.behind; colon = o.is; is = n.is }) })
  by (inr m) = inr (record { kind = BadByte; at = m.at; is = Fails.keyword o.is m.is })

symbol_by : (c : Cursor) → NameFound c ⊎ MisfitFound c → Begun Other c ⊎ Failed Other c
symbol_by c (inl n) = inl (record { kind = AtomKind (named n.name); behind = n.behind; is = Begins.symbol n.name n.is })
symbol_by c (inr m) = inr (record { kind = BadByte; at = m.at; is = Fails.symbol m.is })

begun_or_failed : (l : Lead) (c : Cursor) → lead_of c.rest ≡ l → gap_class l ≡ None → l ≢ End → Begun l c ⊎ Failed l c
begun_or_failed End c e none some = absurd (some refl)
begun_or_failed WhiteSpace c e none some = absurd (cc)
begun_or_failed Comment c e none some = absurd (cc)
begun_or_failed (Open g) c e none some =
    let o = one_from c.at c.rest (λ x. some (sym e ∙ x)) in inl (record { kind = OpenKind g; behind = o.behind; is = Begins.opening g o.is })
begun_or_failed (Close g) c e none some =
    let o = one_from c.at c.rest (λ x. some (sym e ∙ x)) in inl (record { kind = CloseKind g; behind = o.behind; is = Begins.closing g o.is })
begun_or_failed Quote c e none some =
    let q = quote_from c.at c.rest e in string_by c q (content_below c.at (suc (length q.behind.rest)) q.behind (omega arith))
begun_or_failed Colon c e none some =
    let o = one_from c.at c.rest (λ x. some (sym e ∙ x)) in keyword_by c o (begins is_word_byte o.behind.rest) refl
begun_or_failed Number c e none some = let r = run_at is_word_byte c in number_by c r (integer_or_not r.text)
begun_or_failed Other c e none some = symbol_by c (name_or_misfit c (other_begins c.rest e))

-- what comes next
pub record Next (c : Cursor) : Type 0 where
  pub token : Token
  pub behind : Cursor
  pub is : IsToken c token behind

pub record NoNext (c : Cursor) : Type 0 where
  pub kind : ReadKind
  pub at : Spot
  pub is : IsNoToken c kind at

byte_no_end : (b : ℕ) → byte_lead b ≡ End → ⊥
byte_no_end b h = grind (arith, nat_tests)

lead_no_end : (b : ℕ) (bs : List ℕ) → lead_of (b ∷ bs) ≢ End
lead_no_end b bs h = byte_no_end b (sym (first_byte b bs (λ e. let x = sym h ∙ e in cc)) ∙ h)

end_or_lead : (bs : List ℕ) → (bs ≡ []) ⊎ (lead_of bs ≢ End)
end_or_lead [] = inl refl
end_or_lead (b ∷ bs) = inr (lead_no_end b bs)

next_by : (c : Cursor) (g : GapEnd c) → Begun (lead_of g.behind.rest) g.behind ⊎ Failed (lead_of g.behind.rest) g.behind → IsEnd c ⊎ Next c ⊎ NoNext c
next_by c g (inl b) = inr (inl (record { token = record { at = g.behind.at; kind = b.kind }; behind = b.behind; is = record { begin = g.behind; gap = g.gap; at = refl; is = b.is } }))
next_by c g (inr f) = inr (inr (record { kind = f.kind; at = f.at; is = record { begin = g.behind; gap = g.gap; fails = f.is } }))

pub next_from : (c : Cursor) → IsEnd c ⊎ Next c ⊎ NoNext c
next_from c = by (end_or_lead g.behind.rest) where
  g : GapEnd c
  g = gap_below (suc (length c.rest)) c (omega arith)

  by : (g.behind.rest ≡ []) ⊎ (lead_of g.behind.rest ≢ End) → IsEnd c ⊎ Next c ⊎ NoNext c
  by (inl e) = inl (record { last = g.behind; gap = g.gap; ends = e })
  by (inr l) = next_by c g (begun_or_failed (lead_of g.behind.rest) g.behind refl g.none l)
