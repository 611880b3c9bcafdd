-- At a cursor there is one token at most.
use Rattle.std.proofs.Common.{◌≡◌, ◌≢◌, ◌<◌, ◌≤◌, ℕ, ℤ, Bool, true, List, [], ◌∷◌, length, refl, sym, ◌∙◌, ap, subst, arith}
use Rattle.std.specs.Prelude.{None, Some}
use Rattle.std.proofs.lemmas.Bool.Decides.{nat_tests}
use Rattle.std.specs.Str.Parse.{signed_digits_value}
use Rattle.value_core.specs.Place.{Spot}
use Rattle.sexpr_reader.specs.declared.group.Group.{Group}
use Rattle.sexpr_reader.specs.declared.group.Group.TheVariants.{At}
use Rattle.sexpr_reader.specs.declared.lead.Lead.{Lead}
use Rattle.sexpr_reader.specs.declared.lead.Lead.TheVariants as lead
use Rattle.sexpr_reader.specs.declared.token.Atom.TheVariants.{Int, Kw, Str}
use Rattle.sexpr_reader.specs.declared.token.Token.{Token}
use Rattle.sexpr_reader.specs.declared.token.TokenKind.{TokenKind}
use Rattle.sexpr_reader.specs.declared.token.TokenKind.TheVariants.{Close, Atom as AtomKind}
use Rattle.sexpr_reader.specs.Bytes.{is_line_byte, is_name_byte}
use Rattle.sexpr_reader.specs.Cursor.{Cursor, Over}
use Rattle.sexpr_reader.specs.Gap.{Gap}
use Rattle.sexpr_reader.specs.Lead.{begins, lead_of, byte_lead, is_white_space, is_word_byte}
use Rattle.sexpr_reader.specs.Names.{IsName}
use Rattle.sexpr_reader.specs.Runs.{IsRun}
use Rattle.sexpr_reader.specs.Steps.{gap_class}
use Rattle.sexpr_reader.specs.Strings.{unescaped, Written, Content, IsString}
use Rattle.sexpr_reader.specs.Tokens.{OneByte, IsNumber, IsKeyword, Begins, named, IsToken, IsEnd}
use Rattle.sexpr_reader.proofs.Cursors.{Over-same, Over-length}
use Rattle.sexpr_reader.proofs.Integers.{IsInteger-begins}
use Rattle.sexpr_reader.proofs.Leads.{later_word, first_byte}
use Rattle.sexpr_reader.proofs.Lexing.{run_shorter, written_shorter}
use Rattle.sexpr_reader.proofs.Runs.{IsRun-text, IsRun-same}

-- the longest run is one
pub run_same : (p : ℕ → Bool) (t u : List ℕ) {c d e : Cursor} → IsRun p t c d → IsRun p u c e → (t ≡ u) × (d ≡ e)
run_same p t u a b = (IsRun-text p t u a b.spans b.ends, IsRun-same p t u a b.spans b.ends)

-- what separates goes on to one cursor
pub Gap-same : {c d e : Cursor} → Gap c d → Gap c e → gap_class (lead_of d.rest) ≡ None → gap_class (lead_of e.rest) ≡ None → d ≡ e
Gap-same Gap.nothing Gap.nothing h k = refl
Gap-same Gap.nothing (Gap.white_space t is run g) h k = absurd (let x = ap gap_class is in cc)
Gap-same Gap.nothing (Gap.comment t is run g) h k = absurd (let x = ap gap_class is in cc)
Gap-same (Gap.white_space t is run g) Gap.nothing h k = absurd (let x = ap gap_class is in cc)
Gap-same (Gap.comment t is run g) Gap.nothing h k = absurd (let x = ap gap_class is in cc)
Gap-same {e} (Gap.white_space t is run g) (Gap.white_space u also other i) h k =
    let same = (run_same is_white_space t u run other).1 in
    Gap-same g (subst (λ m. Gap m e) (sym same) i) h k
Gap-same {e} (Gap.comment t is run g) (Gap.comment u also other i) h k =
    let same = (run_same is_line_byte t u run other).1 in
    Gap-same g (subst (λ m. Gap m e) (sym same) i) h k
Gap-same (Gap.white_space t is run g) (Gap.comment u also other i) h k = absurd (cc)
Gap-same (Gap.comment t is run g) (Gap.white_space u also other i) h k = absurd (cc)

pub Gap-length : {c d : Cursor} → Gap c d → length d.rest ≤ length c.rest
Gap-length Gap.nothing = omega arith
Gap-length (Gap.white_space t is run g) = omega (arith, Gap-length g, Over-length t run.spans.over)
Gap-length (Gap.comment t is run g) = omega (arith, Gap-length g, Over-length t run.spans.over)

pub OneByte-same : {c d e : Cursor} → OneByte c d → OneByte c e → d ≡ e
OneByte-same {c} {d} {e} a b =
    let is : b.byte ≡ a.byte = (let x = sym b.over.bytes ∙ a.over.bytes in cc) in
    Over-same (a.byte ∷ []) a.over (subst (λ x. Over (x ∷ []) c e) is b.over)

pub record SameText (t u : List ℕ) (d e : Cursor) : Type 0 where
  pub texts : t ≡ u
  pub ends : d ≡ e

pub record SameByte (b x : ℕ) (d e : Cursor) : Type 0 where
  pub bytes : b ≡ x
  pub ends : d ≡ e

pub Written-same : {c d e : Cursor} {b x : ℕ} → Written c b d → Written c x e → SameByte b x d e
Written-same {c} {d} {e} {b} {x} (Written.plain p q o) (Written.plain r s i) =
    let is : x ≡ b = (let y = sym i.bytes ∙ o.bytes in cc) in
    record { bytes = sym is; ends = Over-same (b ∷ []) o (subst (λ y. Over (y ∷ []) c e) is i) }
Written-same (Written.plain p q o) (Written.escape f h i) = absurd (let y = sym i.bytes ∙ o.bytes in q (cc))
Written-same (Written.escape f h o) (Written.plain r s i) = absurd (let y = sym i.bytes ∙ o.bytes in s (cc))
Written-same {c} {d} {e} {b} {x} (Written.escape f h o) (Written.escape g k i) =
    let is : g ≡ f = (let y = sym i.bytes ∙ o.bytes in cc) in
    let found : Some b ≡ Some x = sym h ∙ ap unescaped (sym is) ∙ k in
    record { bytes = cc; ends = Over-same (92 ∷ f ∷ []) o (subst (λ y. Over (92 ∷ y ∷ []) c e) is i) }

pub heads : {a b : ℕ} {s t : List ℕ} → a ∷ s ≡ b ∷ t → a ≡ b
heads e = cc

-- no byte of a string stands where its quote does
pub no_quote : {c d e : Cursor} {b : ℕ} → Written c b d → Over (34 ∷ []) c e → ⊥
no_quote (Written.plain p q o) i = p (let y = sym i.bytes ∙ o.bytes in cc)
no_quote (Written.escape f h o) i = let x : ◌≡◌ {A = ℕ} 34 92 = heads (sym i.bytes ∙ o.bytes) in omega (arith, x)

Content-same : {c n m d e : Cursor} {t u : List ℕ} → Content c t n → Over (34 ∷ []) n d → Content c u m → Over (34 ∷ []) m e → SameText t u d e
Content-same Content.none o Content.none i = record { texts = refl; ends = Over-same (34 ∷ []) o i }
Content-same Content.none o (Content.more w s) i = absurd (no_quote w o)
Content-same (Content.more w r) o Content.none i = absurd (no_quote w i)
Content-same {m} {d} {e} (Content.more {b} {bs} w r) o (Content.more {b = x} {bs = xs} v s) i =
    let one = Written-same w v in
    let rest : SameText bs xs d e = Content-same r o (subst (λ y. Content y xs m) (sym one.ends) s) i in
    record { texts = ap (λ y. y ∷ bs) one.bytes ∙ ap (λ ys. x ∷ ys) rest.texts; ends = rest.ends }

IsString-same : {c d e : Cursor} {t u : List ℕ} → IsString c t d → IsString c u e → SameText t u d e
IsString-same a b =
    let inside = Over-same (34 ∷ []) a.opens b.opens in
    Content-same a.content a.closes (rw inside b.content) b.closes

IsName-same : {c d e : Cursor} {t u : List ℕ} → IsName c t d → IsName c u e → SameText t u d e
IsName-same {t} {u} a b = let s = run_same is_word_byte t u a.word b.word in record { texts = s.0; ends = s.1 }

IsKeyword-same : {c d e : Cursor} {t u : List ℕ} → IsKeyword c t d → IsKeyword c u e → SameText t u d e
IsKeyword-same {e} {u} a b =
    let behind = OneByte-same b.colon a.colon in
    IsName-same a.is (subst (λ m. IsName m u e) behind b.is)

record SameInt (n m : ℤ) (d e : Cursor) : Type 0 where
  pub ints : n ≡ m
  pub ends : d ≡ e

IsNumber-same : {c d e : Cursor} {n m : ℤ} → IsNumber c n d → IsNumber c m e → SameInt n m d e
IsNumber-same {m} a b =
    let s = run_same is_word_byte a.word b.word a.run b.run in
    record { ints = sym a.integer.value ∙ ap (λ w. signed_digits_value 10 w) s.0 ∙ b.integer.value; ends = s.1 }

pub record SameKind (k l : TokenKind) (d e : Cursor) : Type 0 where
  pub kinds : k ≡ l
  pub ends : d ≡ e

pub Begins-same : {l : Lead} {c d e : Cursor} {k m : TokenKind} → Begins l c k d → Begins l c m e → SameKind k m d e
Begins-same (Begins.opening g a) (Begins.opening h b) = record { kinds = refl; ends = OneByte-same a b }
Begins-same (Begins.closing g a) (Begins.closing h b) = record { kinds = refl; ends = OneByte-same a b }
Begins-same (Begins.string t a) (Begins.string u b) = let s = IsString-same a b in record { kinds = ap (λ x. AtomKind (Str x)) s.texts; ends = s.ends }
Begins-same (Begins.number n a) (Begins.number m b) = let s = IsNumber-same a b in record { kinds = ap (λ x. AtomKind (Int x)) s.ints; ends = s.ends }
Begins-same (Begins.keyword t a) (Begins.keyword u b) = let s = IsKeyword-same a b in record { kinds = ap (λ x. AtomKind (Kw x)) s.texts; ends = s.ends }
Begins-same (Begins.symbol t a) (Begins.symbol u b) = let s = IsName-same a b in record { kinds = ap (λ x. AtomKind (named x)) s.texts; ends = s.ends }

-- a token begins where nothing separates
pub no_gap : {l : Lead} {c d : Cursor} {k : TokenKind} → Begins l c k d → gap_class l ≡ None
no_gap (Begins.opening g a) = refl
no_gap (Begins.closing g a) = refl
no_gap (Begins.string t a) = refl
no_gap (Begins.number n a) = refl
no_gap (Begins.keyword t a) = refl
no_gap (Begins.symbol t a) = refl

pub none_at_end : {l : Lead} {c d : Cursor} {k : TokenKind} → Begins l c k d → l ≢ lead.End
none_at_end (Begins.opening g a) h = cc
none_at_end (Begins.closing g a) h = cc
none_at_end (Begins.string t a) h = cc
none_at_end (Begins.number n a) h = cc
none_at_end (Begins.keyword t a) h = cc
none_at_end (Begins.symbol t a) h = cc

pub record SameToken (t u : Token) (d e : Cursor) : Type 0 where
  pub tokens : t ≡ u
  pub ends : d ≡ e

token_of : {t u : Token} → t.at ≡ u.at → t.kind ≡ u.kind → t ≡ u
token_of {t} {u} at kind =
    let made : Spot → TokenKind → Token = λ s k. record { at = s; kind = k } in
    ap (λ s. made s t.kind) at ∙ ap (λ k. made u.at k) kind

pub IsToken-same : {c d e : Cursor} {t u : Token} → IsToken c t d → IsToken c u e → SameToken t u d e
IsToken-same {d} {e} {t} {u} a b =
    let begin : b.begin ≡ a.begin = Gap-same b.gap a.gap (no_gap b.is) (no_gap a.is) in
    let is : Begins (lead_of a.begin.rest) a.begin u.kind e = subst (λ x. Begins (lead_of x.rest) x u.kind e) begin b.is in
    let s = Begins-same a.is is in
    record { tokens = token_of (a.at ∙ ap (λ x. x.at) (sym begin) ∙ sym b.at) s.kinds; ends = s.ends }

-- at the end there is no token
pub end_no_token : {c d : Cursor} {t : Token} → IsEnd c → IsToken c t d → ⊥
end_no_token {c} {d} {t} a b =
    let lead : lead_of a.last.rest ≡ lead.End = rw a.ends refl in
    let none : gap_class (lead_of a.last.rest) ≡ None = rw lead refl in
    let begin : b.begin ≡ a.last = Gap-same b.gap a.gap (no_gap b.is) none in
    none_at_end b.is (ap (λ x. lead_of x.rest) begin ∙ lead)

-- no closing bracket is of @
at_byte : (b : ℕ) → byte_lead b ≡ lead.Close At → ⊥
at_byte b h = grind (arith, nat_tests)

close_at : (bs : List ℕ) → lead_of bs ≡ lead.Close At → ⊥
close_at [] h = cc
close_at (b ∷ bs) h = at_byte b (sym (first_byte b bs (λ e. let x = sym h ∙ e in cc)) ∙ h)

closes_bracket : {l : Lead} {c d : Cursor} {k : TokenKind} {g : Group} → Begins l c k d → k ≡ Close g → l ≡ lead.Close g
closes_bracket (Begins.opening g a) h = absurd (cc)
closes_bracket (Begins.closing g a) h = let e = h in cc
closes_bracket (Begins.string t a) h = absurd (cc)
closes_bracket (Begins.number n a) h = absurd (cc)
closes_bracket (Begins.keyword t a) h = absurd (cc)
closes_bracket (Begins.symbol t a) h = absurd (cc)

pub no_close_at : {c d : Cursor} {t : Token} {g : Group} → IsToken c t d → t.kind ≡ Close g → g ≢ At
no_close_at {c} {d} {t} {g} a h e = close_at a.begin.rest (closes_bracket a.is h ∙ ap lead.Close e)

-- a token takes bytes
pub name_word : (bs : List ℕ) → begins is_name_byte bs ≡ true → begins is_word_byte bs ≡ true
name_word [] h = absurd (cc)
name_word (b ∷ bs) h = later_word b (rw h refl)

name_shorter : (t : List ℕ) {c d : Cursor} → IsName c t d → length d.rest < length c.rest
name_shorter t {c} a = run_shorter is_word_byte t (name_word c.rest a.first) a.word

begins_shorter : {l : Lead} {c d : Cursor} {k : TokenKind} → Begins l c k d → length d.rest < length c.rest
begins_shorter (Begins.opening g a) = omega (arith, Over-length (a.byte ∷ []) a.over)
begins_shorter (Begins.closing g a) = omega (arith, Over-length (a.byte ∷ []) a.over)
begins_shorter (Begins.string t a) = omega (arith, Over-length (34 ∷ []) a.opens, content_length a.content, Over-length (34 ∷ []) a.closes) where
  content_length : {c d : Cursor} {t : List ℕ} → Content c t d → length d.rest ≤ length c.rest
  content_length Content.none = omega arith
  content_length (Content.more w s) = omega (arith, written_shorter w, content_length s)
begins_shorter {c} (Begins.number n a) =
    let some = IsInteger-begins a.word n a.integer in
    let long : length a.word ≡ length (some.0 ∷ some.1) = ap length some.2 in
    omega (arith, long, Over-length a.word a.run.spans.over)
begins_shorter (Begins.keyword t a) = omega (arith, Over-length (a.colon.byte ∷ []) a.colon.over, name_shorter t a.is)
begins_shorter (Begins.symbol t a) = name_shorter t a

pub token_shorter : {c d : Cursor} {t : Token} → IsToken c t d → length d.rest < length c.rest
token_shorter a = omega (arith, Gap-length a.gap, begins_shorter a.is)
