-- The tokens of a text are texts, and so is what they are written as.
use Rattle.std.proofs.Common.{◌≡◌, ◌≢◌, ◌<◌, ◌≤◌, ◌⊎◌, inl, inr, ℕ, zero, suc, Bool, true, false, List, [], ◌∷◌, ◌++◌, length, get_or, refl, sym, ◌∙◌, ap, subst, arith, append-nil, drop_at, length-append}
use Rattle.std.specs.Prelude.{Some}
use Rattle.std.specs.Fmt.{signed_decimal}
use Rattle.std.specs.List.{list_all, flat_map}
use Rattle.std.specs.Str.{IsAscii, IsUtf8, IsCharBoundary, encode_utf8_all, all_scalars}
use Rattle.std.specs.Char.{encode_utf8}
use lib.Utf8.{scalar}
use Rattle.std.proofs.Math.Seq.{get_or-append_seam}
use Rattle.std.proofs.lemmas.Bool.{and_parts, cases_lt}
use Rattle.std.proofs.lemmas.Bool.Decides.{nat_tests}
use Rattle.std.proofs.lemmas.Fmt.{IsAscii-signed}
use Rattle.std.proofs.lemmas.Grind.{flat_map-append}
use Rattle.std.proofs.lemmas.Str.{IsUtf8-nil, IsUtf8-append, IsUtf8-from_ascii, IsUtf8-past_char, IsUtf8-drop, IsUtf8-encode, IsCharBoundary-before_ascii, encode_ascii, inside_one, length-encode, len_utf8_bounds}
use Rattle.std.proofs.lemmas.Str.Ascii.{IsAscii-nil, IsAscii-cons}
use Rattle.value_core.specs.Texts.{escaped, quoted}
use Rattle.sexpr_reader.specs.declared.lead.Lead.{Lead}
use Rattle.sexpr_reader.specs.declared.lead.Lead.TheVariants as lead
use Rattle.sexpr_reader.specs.declared.token.Token.{Token}
use Rattle.sexpr_reader.specs.declared.token.TokenKind.{TokenKind}
use Rattle.sexpr_reader.specs.declared.token.TokenKind.TheVariants.{Open, Close, Atom as AtomKind}
use Rattle.sexpr_reader.specs.Bytes.{is_line_byte, is_later_byte}
use Rattle.sexpr_reader.specs.Cursor.{Cursor, Over}
use Rattle.sexpr_reader.specs.Forms.{atom_kind}
use Rattle.sexpr_reader.specs.Gap.{Gap}
use Rattle.sexpr_reader.specs.Lead.{begins, lead_of, byte_lead, is_sign, is_white_space}
use Rattle.sexpr_reader.specs.Names.{IsName}
use Rattle.sexpr_reader.specs.Spelling.{kind_text}
use Rattle.sexpr_reader.specs.Strings.{unescaped, Written, Content}
use Rattle.sexpr_reader.specs.Tokens.{OneByte, Begins, IsToken}
use Rattle.sexpr_reader.proofs.AtomTexts.{EscapedAs, escaped_as, named_text}
use Rattle.sexpr_reader.proofs.FormFolds.{kind_text-Str, kind_text-Int, kind_text-Kw}
use Rattle.sexpr_reader.proofs.Integers.{IsInteger-ascii}
use Rattle.sexpr_reader.proofs.Lexing.{written_shorter}
use Rattle.sexpr_reader.proofs.Same.{heads}

pub ascii_then : (b : ℕ) (bs : List ℕ) → b < 128 → IsUtf8 bs → IsUtf8 (b ∷ bs)
ascii_then b bs small u = IsUtf8-append (b ∷ []) bs (IsUtf8-from_ascii (b ∷ []) (IsAscii-cons b [] small IsAscii-nil)) u

-- behind ASCII bytes a text goes on as a text
ascii_off : (t rest : List ℕ) → IsAscii t → IsUtf8 (t ++ rest) → IsUtf8 rest
ascii_off [] rest h u = u
ascii_off (b ∷ t) rest h u =
    let one : b ∷ (t ++ rest) ≡ encode_utf8 b ++ (t ++ rest) = rw (encode_ascii b (h 0)) refl in
    ascii_off t rest (λ i. h (suc i)) (IsUtf8-past_char (b ∷ (t ++ rest)) (t ++ rest) b u one)

ascii_over : {c d : Cursor} (t : List ℕ) → IsAscii t → Over t c d → IsUtf8 c.rest → IsUtf8 d.rest
ascii_over {c} {d} t h o u = ascii_off t d.rest h (subst IsUtf8 o.bytes u)

-- and before a line feed
line_off : (t rest : List ℕ) → begins is_line_byte rest ≡ false → IsUtf8 (t ++ rest) → IsUtf8 rest
line_off t [] h u = IsUtf8-nil
line_off t (b ∷ rest) h u =
    let feed : b ≡ 10 = line_feed b h in
    let here : get_or (t ++ b ∷ rest) (length t) 0 ≡ b = get_or-append_seam t b rest 0 in
    let boundary : IsCharBoundary (t ++ b ∷ rest) (length t) = IsCharBoundary-before_ascii (t ++ b ∷ rest) (length t) (omega (arith, length-append t (b ∷ rest))) (omega (arith, here, feed)) in
    subst IsUtf8 (drop_at t (b ∷ rest) (length t) refl) (IsUtf8-drop (t ++ b ∷ rest) (length t) u boundary) where
      line_feed : (b : ℕ) → is_line_byte b ≡ false → b ≡ 10
      line_feed b h = grind (arith, nat_tests)

unescaped_small : (e b : ℕ) → unescaped e ≡ Some b → (e < 128) × (b < 128)
unescaped_small e b h = grind (arith, nat_tests)

later_small : (b : ℕ) → is_later_byte b ≡ true → b < 128
later_small b h = grind (arith, nat_tests)

white_small : (b : ℕ) → is_white_space b ≡ true → b < 128
white_small b h = grind (arith, nat_tests)

high_byte : (b : ℕ) → 128 ≤ b → byte_lead b ≡ lead.Other
high_byte b h = grind (arith, nat_tests)

high_sign : (b : ℕ) → 128 ≤ b → is_sign b ≡ false
high_sign b h = grind (arith, nat_tests)

high_lead : (b : ℕ) (bs : List ℕ) → 128 ≤ b → lead_of (b ∷ bs) ≡ lead.Other
high_lead b bs h = rw (high_sign b h) (high_byte b h)

low_byte : (b : ℕ) (bs : List ℕ) → lead_of (b ∷ bs) ≢ lead.Other → b < 128
low_byte b bs n = by (cases_lt b 128) where
  by : ((b < 128) ⊎ (128 ≤ b)) → b < 128
  by (inl h) = h
  by (inr h) = absurd (n (high_lead b bs h))

each_ascii : (p : ℕ → Bool) → ((b : ℕ) → p b ≡ true → b < 128) → (t : List ℕ) → list_all p t ≡ true → IsAscii t
each_ascii p small [] h = IsAscii-nil
each_ascii p small (b ∷ t) h = let q = and_parts (p b) (list_all p t) h in IsAscii-cons b t (small b q.0) (each_ascii p small t q.1)

-- what separates
gap_text : {c d : Cursor} → Gap c d → IsUtf8 c.rest → IsUtf8 d.rest
gap_text Gap.nothing u = u
gap_text (Gap.white_space t is run g) u = gap_text g (ascii_over t (each_ascii is_white_space white_small t run.spans.each) run.spans.over u)
gap_text {c} (Gap.comment {m} t is run g) u = gap_text g (line_off t m.rest run.ends (subst IsUtf8 run.spans.over.bytes u))

-- the bytes of one character that is not ASCII, at the front of a string
record Peeled (bs r t : List ℕ) (k : Cursor) : Type 0 where
  text : List ℕ
  behind : Cursor
  whole : t ≡ bs ++ text
  content : Content behind text k
  rest : behind.rest ≡ r

abbrev AreHigh : List ℕ → Type 0
AreHigh bs = (k : ℕ) → k < length bs → 128 ≤ get_or bs k 0

high_tail : (b : ℕ) (bs : List ℕ) → AreHigh (b ∷ bs) → AreHigh bs
high_tail b bs h k less = h (suc k) (omega arith)

tails : {a b : ℕ} {s t : List ℕ} → a ∷ s ≡ b ∷ t → s ≡ t
tails e = cc

peel : (bs r : List ℕ) {c k d : Cursor} {t : List ℕ} → AreHigh bs → c.rest ≡ bs ++ r → Content c t k → Over (34 ∷ []) k d → Peeled bs r t k
peel [] r {c} {t} h e content o = record { text = t; behind = c; whole = refl; content = content; rest = e }
peel (b ∷ bs) r h e Content.none o =
    let is : ◌≡◌ {A = ℕ} 34 b = heads (sym o.bytes ∙ e) in absurd (omega (arith, is, h 0 (omega arith)))
peel (b ∷ bs) r {c} {k} h e (Content.more {b = x} {bs = xs} (Written.plain p q w) s) o =
    let is : x ≡ b = heads (sym w.bytes ∙ e) in
    let rest = tails (sym w.bytes ∙ e) in
    let l = peel bs r (high_tail b bs h) rest s o in
    record { text = l.text; behind = l.behind; whole = ap (λ y. y ∷ xs) is ∙ ap (λ ys. b ∷ ys) l.whole; content = l.content; rest = l.rest }
peel (b ∷ bs) r h e (Content.more (Written.escape f g w) s) o =
    let is : ◌≡◌ {A = ℕ} 92 b = heads (sym w.bytes ∙ e) in absurd (omega (arith, is, h 0 (omega arith)))

encode_high : (x : ℕ) → 128 ≤ x → AreHigh (encode_utf8 x)
encode_high x big k less = by (cases_lt (get_or (encode_utf8 x) k 0) 128) where
  by : ((get_or (encode_utf8 x) k 0 < 128) ⊎ (128 ≤ get_or (encode_utf8 x) k 0)) → 128 ≤ get_or (encode_utf8 x) k 0
  by (inl low) = absurd (omega (arith, inside_one x [] (encode_utf8 x) k (sym (append-nil (encode_utf8 x))) less low))
  by (inr h) = h

-- a string between quotes of a text is a text, and so is what follows
record Inside (t : List ℕ) (d : Cursor) : Type 0 where
  text : IsUtf8 t
  rest : IsUtf8 d.rest

abbrev Within : Cursor → Cursor → Cursor → Type 0
Within c k d = (m : Cursor) (t : List ℕ) → length m.rest < length c.rest → IsUtf8 m.rest → Content m t k → Inside t d

low_inside : {c k d : Cursor} {t : List ℕ} (x : ℕ) (xs : List ℕ) → x < 128 → c.rest ≡ x ∷ xs → IsUtf8 c.rest → Content c t k → Over (34 ∷ []) k d → Within c k d → Inside t d
low_inside x xs small e u Content.none o next = record { text = IsUtf8-nil; rest = ascii_over (34 ∷ []) (IsAscii-cons 34 [] (omega arith) IsAscii-nil) o u }
low_inside x xs small e u (Content.more {m} {b} {bs} (Written.plain p q w) s) o next =
    let is : b ≡ x = heads (sym w.bytes ∙ e) in
    let low : b < 128 = omega (arith, is, small) in
    let r = next m bs (written_shorter (Written.plain p q w)) (ascii_over (b ∷ []) (IsAscii-cons b [] low IsAscii-nil) w u) s in
    record { text = ascii_then b bs low r.text; rest = r.rest }
low_inside x xs small e u (Content.more {m} {b} {bs} (Written.escape f g w) s) o next =
    let low = unescaped_small f b g in
    let two = IsAscii-cons 92 (f ∷ []) (omega arith) (IsAscii-cons f [] low.0 IsAscii-nil) in
    let r = next m bs (written_shorter (Written.escape f g w)) (ascii_over (92 ∷ f ∷ []) two w u) s in
    record { text = ascii_then b bs low.1 r.text; rest = r.rest }

high_inside : {c k d : Cursor} {t : List ℕ} (x : ℕ) (xs : List ℕ) → 128 ≤ x → scalar x ≡ true → IsUtf8 xs → c.rest ≡ encode_utf8 x ++ xs → Content c t k → Over (34 ∷ []) k d → Within c k d → Inside t d
high_inside {c} {k} {d} {t} x xs big ok others e content o next =
    let l = peel (encode_utf8 x) xs (encode_high x big) e content o in
    let more : 0 < length (encode_utf8 x) = omega (arith, length-encode x, (len_utf8_bounds x).0) in
    let less : length l.behind.rest < length c.rest = omega (arith, ap length e, length-append (encode_utf8 x) xs, ap length l.rest, more) in
    let r = next l.behind l.text less (subst IsUtf8 (sym l.rest) others) l.content in
    record { text = subst IsUtf8 (sym l.whole) (IsUtf8-append (encode_utf8 x) l.text (IsUtf8-encode x ok) r.text); rest = r.rest }

chars_inside : {c k d : Cursor} {t : List ℕ} (cs : List ℕ) → all_scalars cs ≡ true → encode_utf8_all cs ≡ c.rest → Content c t k → Over (34 ∷ []) k d → Within c k d → Inside t d
chars_inside [] ok e Content.none o next = absurd (let x = e ∙ o.bytes in cc)
chars_inside [] ok e (Content.more (Written.plain p q w) s) o next = absurd (let x = e ∙ w.bytes in cc)
chars_inside [] ok e (Content.more (Written.escape f g w) s) o next = absurd (let x = e ∙ w.bytes in cc)
chars_inside {c} {d} {t} (x ∷ cs) ok e content o next = by (cases_lt x 128) where
  others : IsUtf8 (encode_utf8_all cs)
  others = (cs, ((and_parts (scalar x) (all_scalars cs) ok).1, refl))

  by : ((x < 128) ⊎ (128 ≤ x)) → Inside t d
  by (inl small) =
      let one : c.rest ≡ x ∷ encode_utf8_all cs = sym e ∙ ap (λ y. y ++ encode_utf8_all cs) (encode_ascii x small) in
      low_inside x (encode_utf8_all cs) small one (x ∷ cs, (ok, e)) content o next
  by (inr big) = high_inside x (encode_utf8_all cs) big ((and_parts (scalar x) (all_scalars cs) ok).0) others (sym e) content o next

inside_below : (n : ℕ) {c k d : Cursor} {t : List ℕ} → length c.rest < n → IsUtf8 c.rest → Content c t k → Over (34 ∷ []) k d → Inside t d
inside_below zero h u content o = absurd (omega arith)
inside_below (suc n) {c} {k} {d} h u content o = chars_inside u.0 u.1.0 u.1.1 content o (λ m t l v r. inside_below n (omega (arith, l, h)) v r o)

-- a text between quotes, escaped
escaped_char : (x : ℕ) → x < 128 → EscapedAs x → IsUtf8 (escaped x)
escaped_char x small (EscapedAs.plain p q e) = rw e (ascii_then x [] small IsUtf8-nil)
escaped_char x small (EscapedAs.escape f g e) = rw e (ascii_then 92 (f ∷ []) (omega arith) (ascii_then f [] ((unescaped_small f x g).0) IsUtf8-nil))

high_plain : (b : ℕ) → 128 ≤ b → EscapedAs b → escaped b ≡ b ∷ []
high_plain b h (EscapedAs.plain p q e) = e
high_plain b h (EscapedAs.escape f g e) = absurd (omega (arith, h, (unescaped_small f b g).1))

high_escaped : (bs : List ℕ) → AreHigh bs → flat_map escaped bs ≡ bs
high_escaped [] h = refl
high_escaped (b ∷ bs) h = rw (high_plain b (h 0 (omega arith)) (escaped_as b), high_escaped bs (high_tail b bs h)) refl

one_escaped : (x : ℕ) → scalar x ≡ true → IsUtf8 (flat_map escaped (encode_utf8 x))
one_escaped x ok = by (cases_lt x 128) where
  by : ((x < 128) ⊎ (128 ≤ x)) → IsUtf8 (flat_map escaped (encode_utf8 x))
  by (inl small) = rw (encode_ascii x small, append-nil) (escaped_char x small (escaped_as x))
  by (inr big) = rw (high_escaped (encode_utf8 x) (encode_high x big)) (IsUtf8-encode x ok)

all_escaped : (cs : List ℕ) → all_scalars cs ≡ true → IsUtf8 (flat_map escaped (encode_utf8_all cs))
all_escaped [] ok = IsUtf8-nil
all_escaped (x ∷ cs) ok =
    let p = and_parts (scalar x) (all_scalars cs) ok in
    rw (flat_map-append escaped (encode_utf8 x) (encode_utf8_all cs))
    (IsUtf8-append (flat_map escaped (encode_utf8 x)) (flat_map escaped (encode_utf8_all cs)) (one_escaped x p.0) (all_escaped cs p.1))

quoted_text : (text : List ℕ) → IsUtf8 text → IsUtf8 (quoted text)
quoted_text text u =
    let inner : IsUtf8 (flat_map escaped text) = subst (λ x. IsUtf8 (flat_map escaped x)) u.1.1 (all_escaped u.0 u.1.0) in
    ascii_then 34 (flat_map escaped text ++ 34 ∷ []) (omega arith) (IsUtf8-append (flat_map escaped text) (34 ∷ []) inner (ascii_then 34 [] (omega arith) IsUtf8-nil))

-- an atom is written as a text
abbrev pub HasText : TokenKind → Type 0
HasText (AtomKind a) = IsUtf8 (kind_text (atom_kind a))
HasText (Open g) = Unit {0}
HasText (Close g) = Unit {0}

pub record Taken (kind : TokenKind) (d : Cursor) : Type 0 where
  pub text : HasText kind
  pub rest : IsUtf8 d.rest

name_ascii : {c d : Cursor} {name : List ℕ} → IsName c name d → IsAscii name
name_ascii {name} n = each_ascii is_later_byte later_small name n.fits

low_off : {c d : Cursor} → OneByte c d → lead_of c.rest ≢ lead.Other → IsUtf8 c.rest → IsUtf8 d.rest
low_off {c} {d} o n u =
    let low = low_byte o.byte d.rest (λ e. n (ap lead_of o.over.bytes ∙ e)) in
    ascii_over (o.byte ∷ []) (IsAscii-cons o.byte [] low IsAscii-nil) o.over u

takes : {l : Lead} {c d : Cursor} {k : TokenKind} → Begins l c k d → l ≡ lead_of c.rest → IsUtf8 c.rest → Taken k d
takes (Begins.opening g o) e u = record { text = tt; rest = low_off o (λ x. absurd (let y = e ∙ x in cc)) u }
takes (Begins.closing g o) e u = record { text = tt; rest = low_off o (λ x. absurd (let y = e ∙ x in cc)) u }
takes (Begins.string text s) e u =
    let quote = ascii_over (34 ∷ []) (IsAscii-cons 34 [] (omega arith) IsAscii-nil) s.opens u in
    let r = inside_below (suc (length s.inside.rest)) (omega arith) quote s.content s.closes in
    record { text = rw (kind_text-Str text) (quoted_text text r.text); rest = r.rest }
takes (Begins.number n s) e u = record {
  text = rw (kind_text-Int n) (IsUtf8-from_ascii (signed_decimal n) (IsAscii-signed n s.integer.fits.sfits));
  rest = ascii_over s.word (IsInteger-ascii s.word n s.integer) s.run.spans.over u;
}
takes (Begins.keyword name s) e u =
    let behind = low_off s.colon (λ x. absurd (let y = e ∙ x in cc)) u in
    record {
      text = rw (kind_text-Kw name) (ascii_then 58 name (omega arith) (IsUtf8-from_ascii name (name_ascii s.is)));
      rest = ascii_over name (name_ascii s.is) s.is.word.spans.over behind;
    }
takes (Begins.symbol name s) e u = record {
  text = rw (named_text name) (IsUtf8-from_ascii name (name_ascii s));
  rest = ascii_over name (name_ascii s) s.word.spans.over u;
}

pub token_takes : {c d : Cursor} {t : Token} → IsToken c t d → IsUtf8 c.rest → Taken t.kind d
token_takes t u = takes t.is refl (gap_text t.gap u)
