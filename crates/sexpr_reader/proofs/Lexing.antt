-- The steps of the lexer, over plain cursors.
use Rattle.std.proofs.Common.{◌≡◌, ◌≢◌, ◌<◌, ◌+◌, ◌-◌, ℕ, Bool, true, false, List, [], ◌∷◌, ◌++◌, length, take, refl, ap, subst, arith, length-take}
use Rattle.std.specs.Prelude.{Option, None, Some, IfNone, IfSome, Result, Ok, Err, IfOk, IfErr}
use Rattle.std.specs.List.{list_all}
use Rattle.std.proofs.lemmas.Bool.{and_parts}
use Rattle.value_core.specs.Place.{Spot}
use Rattle.sexpr_reader.specs.declared.error.ReadKind.TheVariants.{BadByte}
use Rattle.sexpr_reader.specs.declared.error.ReadNo.{ReadNo}
use Rattle.sexpr_reader.specs.declared.error.ReadNo.TheVariants.{Refused, Memory}
use Rattle.sexpr_reader.specs.declared.lead.Class.{Class}
use Rattle.sexpr_reader.specs.declared.lead.Class.TheVariants as class
use Rattle.sexpr_reader.specs.declared.lead.Lead.{Lead}
use Rattle.sexpr_reader.specs.declared.lead.Lead.TheVariants.{End, WhiteSpace, Comment, Open, Close, Quote, Colon, Number, Other}
use Rattle.sexpr_reader.specs.declared.token.Atom.TheVariants.{Kw}
use Rattle.sexpr_reader.specs.declared.token.TokenKind.TheVariants.{Atom as AtomKind}
use Rattle.sexpr_reader.specs.Bytes.{has, is_line_byte, is_later_byte, is_name_byte}
use Rattle.sexpr_reader.specs.Cursor.{Cursor, Over}
use Rattle.sexpr_reader.specs.Gap.{Gap, white_space, comment}
use Rattle.sexpr_reader.specs.Grammar.{RefusedAs}
use Rattle.sexpr_reader.specs.Lead.{begins, lead_of, is_white_space, is_word_byte}
use Rattle.sexpr_reader.specs.Names.{IsName, Misfit}
use Rattle.sexpr_reader.specs.Runs.{IsRun}
use Rattle.sexpr_reader.specs.Steps.{gap_class, IsPiece}
use Rattle.sexpr_reader.specs.Strings.{unescaped, Written, Content, StringStops}
use Rattle.sexpr_reader.specs.Tokens.{OneByte, Begins, Fails}
use Rattle.sexpr_reader.proofs.Cursors.{Over-append, Over-length, Over-text}
use Rattle.sexpr_reader.proofs.Leads.{white_begins, comment_begins, quote_begins, later_word}

-- one byte more of a source
pub Over-pass : (next : Option ℕ) {c m d : Cursor} (i : ℕ) → i < length c.rest → Over (take i c.rest) c m
    → IfNone next (m.rest ≡ []) → IfSome next (λ b. Over (b ∷ []) m d) → Over (take (i + 1) c.rest) c d
Over-pass None {c} {m} {d} i h front end step =
    let long = Over-length (take i c.rest) front in
    let none : length m.rest ≡ 0 = ap length end in
    absurd (omega (arith, long, none, length-take i c.rest))
Over-pass (Some b) {c} {m} {d} i h front end step =
    let whole : Over (take i c.rest ++ b ∷ []) c d = Over-append (take i c.rest) (b ∷ []) front step in
    let first = Over-length (take i c.rest) front in
    let second = Over-length (b ∷ []) step in
    let count : length c.rest - length d.rest ≡ i + 1 = omega (arith, first, second, length-take i c.rest) in
    let text : take (i + 1) c.rest ≡ take i c.rest ++ b ∷ [] = rw count at (Over-text (take i c.rest ++ b ∷ []) whole) in
    rw text whole

-- a run where the test passes takes bytes
pub run_shorter : (test : ℕ → Bool) (t : List ℕ) {c d : Cursor} → begins test c.rest ≡ true → IsRun test t c d → length d.rest < length c.rest
run_shorter test [] {c} {d} passes run =
    let same : c.rest ≡ d.rest = run.spans.over.bytes in
    let fails : begins test c.rest ≡ false = rw same run.ends in
    absurd (cc)
run_shorter test (b ∷ t) passes run = omega (arith, Over-length (b ∷ t) run.spans.over)

-- a piece of what separates
pub Gap-step : (lead : Lead) (class : Class) (t : List ℕ) {c m d : Cursor} → lead_of c.rest ≡ lead → gap_class lead ≡ Some class
    → IsRun (has class) t c m → Gap m d → Gap c d
Gap-step WhiteSpace k t {c} {m} e is run g =
    let same : k ≡ class.WhiteSpace = cc in
    let run : IsRun is_white_space t c m = subst (λ x. IsRun (has x) t c m) same run in
    white_space t e run g
Gap-step Comment k t {c} {m} e is run g =
    let same : k ≡ class.Line = cc in
    let run : IsRun is_line_byte t c m = subst (λ x. IsRun (has x) t c m) same run in
    comment t e run g
Gap-step End k t e is run g = absurd (cc)
Gap-step (Open x) k t e is run g = absurd (cc)
Gap-step (Close x) k t e is run g = absurd (cc)
Gap-step Quote k t e is run g = absurd (cc)
Gap-step Colon k t e is run g = absurd (cc)
Gap-step Number k t e is run g = absurd (cc)
Gap-step Other k t e is run g = absurd (cc)

pub Gap-shorter : (lead : Lead) (class : Class) (t : List ℕ) {c m : Cursor} → lead_of c.rest ≡ lead → gap_class lead ≡ Some class
    → IsRun (has class) t c m → length m.rest < length c.rest
Gap-shorter WhiteSpace k t {c} {m} e is run =
    let same : k ≡ class.WhiteSpace = cc in
    let run : IsRun is_white_space t c m = subst (λ x. IsRun (has x) t c m) same run in
    run_shorter is_white_space t (white_begins c.rest e) run
Gap-shorter Comment k t {c} {m} e is run =
    let same : k ≡ class.Line = cc in
    let run : IsRun is_line_byte t c m = subst (λ x. IsRun (has x) t c m) same run in
    run_shorter is_line_byte t (comment_begins c.rest e) run
Gap-shorter End k t e is run = absurd (cc)
Gap-shorter (Open x) k t e is run = absurd (cc)
Gap-shorter (Close x) k t e is run = absurd (cc)
Gap-shorter Quote k t e is run = absurd (cc)
Gap-shorter Colon k t e is run = absurd (cc)
Gap-shorter Number k t e is run = absurd (cc)
Gap-shorter Other k t e is run = absurd (cc)

-- where the source doesn't end there is a byte
pub one_byte : (next : Option ℕ) {c d : Cursor} → lead_of c.rest ≢ End → IfNone next (c.rest ≡ []) → IfSome next (λ b. Over (b ∷ []) c d) → OneByte c d
one_byte None {c} h end step = absurd (h (ap lead_of end))
one_byte (Some b) h end step = record { byte = b; over = step }

pub quote_byte : (next : Option ℕ) {c d : Cursor} → lead_of c.rest ≡ Quote → IfNone next (c.rest ≡ []) → IfSome next (λ b. Over (b ∷ []) c d) → Over (34 ∷ []) c d
quote_byte None {c} h end step = absurd (let e = ap lead_of end in cc)
quote_byte (Some b) {c} {d} h end step =
    let lead : lead_of (b ∷ d.rest) ≡ Quote = rw step.bytes at h in
    let is : b ≡ 34 = quote_begins b d.rest lead in
    rw is at step

-- names
later_each : (t : List ℕ) → list_all is_later_byte t ≡ true → list_all is_word_byte t ≡ true
later_each [] h = refl
later_each (b ∷ t) h = rw (later_word b ((and_parts (is_later_byte b) (list_all is_later_byte t) h).0)) (later_each t ((and_parts (is_later_byte b) (list_all is_later_byte t) h).1))

pub name_found : (t name : List ℕ) {c d : Cursor} → name ≡ t → begins is_name_byte c.rest ≡ true → IsRun is_later_byte t c d → begins is_word_byte d.rest ≡ false → IsName c name d
name_found t name e first run ends = rw e (record {
  first = first;
  word = record { spans = record { each = later_each t run.spans.each; over = run.spans.over }; ends = ends };
  fits = run.spans.each;
})

pub colon_fails : {A : Type 0} (r : Result A ReadNo) {c m : Cursor} (colon : Spot) → colon ≡ c.at → OneByte c m
    → IfErr r (λ error. (begins is_word_byte m.rest ≡ false) × (error ≡ Refused BadByte colon)) → IfErr r (RefusedAs (Fails Colon c))
colon_fails (Ok x) colon is one h = tt
colon_fails (Err error) colon is one h = rw (h.1, is) (Fails.colon one h.0)

pub keyword_fails : (r : Result (List ℕ) ReadNo) {c m : Cursor} → OneByte c m → IfErr r (RefusedAs (λ kind at. (kind ≡ BadByte) × Misfit m at))
    → IfErr r (RefusedAs (Fails Colon c))
keyword_fails (Ok name) one h = tt
keyword_fails (Err Memory) one h = tt
keyword_fails (Err (Refused kind at)) one h = rw h.0 (Fails.keyword one h.1)

pub symbol_fails : (c : Cursor) (error : ReadNo) → RefusedAs (λ kind at. (kind ≡ BadByte) × Misfit c at) error → RefusedAs (Fails Other c) error
symbol_fails c Memory h = tt
symbol_fails c (Refused kind at) h = rw h.0 (Fails.symbol h.1)

-- strings
pub escape_found : (x e b : ℕ) {c m d : Cursor} → x ≡ 92 → Over (x ∷ []) c m → Over (e ∷ []) m d → unescaped e ≡ Some b → Written c b d
escape_found x e b is first second found =
    Written.escape e found (Over-append (92 ∷ []) (e ∷ []) (rw is at first) second)

pub Content-more : (t : List ℕ) {c m d : Cursor} {b : ℕ} → Content c t m → Written m b d → Content c (t ++ b ∷ []) d
Content-more [] Content.none w = Content.more w Content.none
Content-more (b ∷ t) (Content.more v rest) w = Content.more v (Content-more t rest w)

pub written_shorter : {c d : Cursor} {b : ℕ} → Written c b d → length d.rest < length c.rest
written_shorter {b} (Written.plain _ _ o) = omega (arith, Over-length (b ∷ []) o)
written_shorter (Written.escape e _ o) = omega (arith, Over-length (92 ∷ e ∷ []) o)

pub string_fails : (error : ReadNo) (t : List ℕ) {c m n : Cursor} (quote : Spot) → quote ≡ c.at → Over (34 ∷ []) c m → Content m t n
    → RefusedAs (StringStops quote n) error → RefusedAs (Fails Quote c) error
string_fails Memory t quote is o s h = tt
string_fails (Refused kind at) t {c} {m} {n} quote is o s h =
    let stops : StringStops c.at n kind at = rw is at h in
    Fails.string (record { inside = m; stop = n; text = t; opens = o; content = s; stops = stops })

pub keyword_found : (r : Result (List ℕ) ReadNo) (c m d : Cursor) → OneByte c m → IfOk r (λ name. IsName m name d)
    → IfOk r (λ name. Begins Colon c (AtomKind (Kw name)) d)
keyword_found (Ok name) c m d one h = Begins.keyword name (record { behind = m; colon = one; is = h })
keyword_found (Err error) c m d one h = tt

pub string_stops : (r : Result (Option ℕ) ReadNo) (t : List ℕ) (d : Cursor) {c m n : Cursor} (quote : Spot) → quote ≡ c.at → Over (34 ∷ []) c m → Content m t n
    → IsPiece quote n r d → IfErr r (RefusedAs (Fails Quote c))
string_stops (Ok None) t d quote is o s h = tt
string_stops (Ok (Some b)) t d quote is o s h = tt
string_stops (Err error) t d quote is o s h = string_fails error t quote is o s h
