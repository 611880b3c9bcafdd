-- A source is spelled by one list of forms, or refused at one place, and never both.
use Rattle.std.proofs.Common.{◌≡◌, ◌≢◌, ◌<◌, ◌≤◌, inl, inr, ℕ, Bool, true, false, List, [], ◌∷◌, ◌++◌, length, refl, sym, ◌∙◌, ap, subst, arith}
use Rattle.std.proofs.lemmas.List.{length-map}
use Rattle.std.specs.Prelude.{None}
use Rattle.value_core.specs.Place.{Spot}
use Rattle.sexpr_reader.specs.declared.error.ReadKind.{ReadKind}
use Rattle.sexpr_reader.specs.declared.form.Form.{Form}
use Rattle.sexpr_reader.specs.declared.frame.Frame.{Frame}
use Rattle.sexpr_reader.specs.declared.group.Group.{Group}
use Rattle.sexpr_reader.specs.declared.group.Opened.{Opened}
use Rattle.sexpr_reader.specs.declared.lead.Lead.{Lead}
use Rattle.sexpr_reader.specs.declared.lead.Lead.TheVariants as lead
use Rattle.sexpr_reader.specs.declared.token.Token.{Token}
use Rattle.sexpr_reader.specs.declared.token.TokenKind.{TokenKind}
use Rattle.sexpr_reader.specs.declared.token.TokenKind.TheVariants.{Open, Close, Atom as AtomKind}
use Rattle.sexpr_reader.specs.Bytes.{is_later_byte}
use Rattle.sexpr_reader.specs.Cursor.{Cursor, Over}
use Rattle.sexpr_reader.specs.Forms.{form_at, atom_kind, IsForm, AreForms}
use Rattle.sexpr_reader.specs.Grammar.{IsOther, Stops, IsSource, IsRefused}
use Rattle.sexpr_reader.specs.Integer.{IsInteger}
use Rattle.sexpr_reader.specs.Lead.{begins, lead_of, is_word_byte}
use Rattle.sexpr_reader.specs.Limits.{nest_limit}
use Rattle.sexpr_reader.specs.Names.{IsName, Misfit}
use Rattle.sexpr_reader.specs.Nest.{Nest, nest_of, opens_of, opened_of, frame_of, group_form, settled}
use Rattle.sexpr_reader.specs.Opens.{is_at, without_ats, Leaves}
use Rattle.sexpr_reader.specs.Runs.{IsRun}
use Rattle.sexpr_reader.specs.Steps.{gap_class}
use Rattle.sexpr_reader.specs.Strings.{unescaped, Written, Content, StringStops}
use Rattle.sexpr_reader.specs.Tokens.{Begins, Fails, IsToken, IsEnd, IsNoToken}
use Rattle.sexpr_reader.proofs.Cursors.{Over-same}
use Rattle.sexpr_reader.proofs.Leads.{later_word}
use Rattle.sexpr_reader.proofs.Same.{name_word, run_same, Gap-same, OneByte-same, Written-same, no_quote, heads, no_gap, IsToken-same, end_no_token}
use Rattle.sexpr_reader.proofs.Sources.{SoFar, SoFar-begin, take_open, take_atom, take_close, Rest, Fresh, next_of, close_out, Ends, no_form, one_is_some, Settled-of}

-- where a name stands, no byte of it misfits
no_later : (bs : List ℕ) → begins is_word_byte bs ≡ false → begins is_later_byte bs ≡ false
no_later [] h = refl
no_later (b ∷ bs) h = by_test (is_later_byte b) refl where
  by_test : (t : Bool) → is_later_byte b ≡ t → is_later_byte b ≡ false
  by_test true e = absurd (let x = later_word b e in cc)
  by_test false e = e

misfit_no_name : {c d : Cursor} {at : Spot} {name : List ℕ} → Misfit c at → IsName c name d → ⊥
misfit_no_name (Misfit.first w n) a = let x = sym n ∙ a.first in cc
misfit_no_name {c} {d = e} {name} (Misfit.later {d} front f run more) a =
    let later : IsRun is_later_byte name c e = record { spans = record { each = a.fits; over = a.word.spans.over }; ends = no_later e.rest a.word.ends } in
    let same : d ≡ e = (run_same is_later_byte front name run later).1 in
    let ends : begins is_word_byte d.rest ≡ false = subst (λ x. begins is_word_byte x.rest ≡ false) (sym same) a.word.ends in
    let x = sym more ∙ ends in cc

-- the bytes of a string up to its quote, and others of it
pub second : {a b x y : ℕ} {s t : List ℕ} → a ∷ b ∷ s ≡ x ∷ y ∷ t → b ≡ y
second e = cc

-- where a byte of a string stands, the string does not stop
pub no_stop : {c d : Cursor} {b : ℕ} {kind : ReadKind} {quote at : Spot} → Written c b d → StringStops quote c kind at → ⊥
no_stop (Written.plain p q o) (inl s) = let x = sym o.bytes ∙ s.0 in cc
no_stop (Written.plain p q o) (inr (inl s)) = q (heads (sym o.bytes ∙ s.0))
no_stop (Written.plain p q o) (inr (inr s)) = q (heads (sym o.bytes ∙ s.2))
no_stop (Written.escape f h o) (inl s) = let x = sym o.bytes ∙ s.0 in cc
no_stop (Written.escape f h o) (inr (inl s)) = let x = sym o.bytes ∙ s.0 in cc
no_stop (Written.escape f h o) (inr (inr s)) =
    let same : f ≡ s.0 = second (sym o.bytes ∙ s.2) in
    let x = sym h ∙ ap unescaped same ∙ s.3 in cc

content_front : {c m n d : Cursor} {t u : List ℕ} {kind : ReadKind} {quote at : Spot} → Content c t n → Over (34 ∷ []) n d → Content c u m → StringStops quote m kind at → ⊥
content_front Content.none o Content.none (inl s) = let x = sym o.bytes ∙ s.0 in cc
content_front Content.none o Content.none (inr (inl s)) = let x : ◌≡◌ {A = ℕ} 34 92 = heads (sym o.bytes ∙ s.0) in omega (arith, x)
content_front Content.none o Content.none (inr (inr s)) = let x : ◌≡◌ {A = ℕ} 34 92 = heads (sym o.bytes ∙ s.2) in omega (arith, x)
content_front Content.none o (Content.more w r) s = no_quote w o
content_front (Content.more w r) o Content.none s = no_stop w s
content_front {m} (Content.more {b} {bs} w r) o (Content.more {b = x} {bs = xs} v q) s =
    let one = Written-same w v in
    content_front r o (subst (λ y. Content y xs m) (sym one.ends) q) s

-- what fails begins no token
fails_no_token : {l : Lead} {c d : Cursor} {kind : ReadKind} {at : Spot} {k : TokenKind} → Fails l c kind at → Begins l c k d → ⊥
fails_no_token (Fails.string a) (Begins.string t b) =
    let same = Over-same (34 ∷ []) b.opens a.opens in
    content_front (subst (λ x. Content x t b.close) same b.content) b.closes a.content a.stops
fails_no_token (Fails.number w run none) (Begins.number n b) =
    none n (subst (λ x. IsInteger x n) (sym (run_same is_word_byte w b.word run b.run).0) b.integer)
fails_no_token (Fails.colon {d} a none) (Begins.keyword t b) =
    let same : b.behind ≡ d = OneByte-same b.colon a in
    let x = sym none ∙ subst (λ y. begins is_word_byte y.rest ≡ true) same (name_word b.behind.rest b.is.first) in cc
fails_no_token {d = e} (Fails.keyword {d} a m) (Begins.keyword t b) =
    let same : b.behind ≡ d = OneByte-same b.colon a in
    misfit_no_name m (subst (λ y. IsName y t e) same b.is)
fails_no_token (Fails.symbol m) (Begins.symbol t b) = misfit_no_name m b

pub fails_no_gap : {l : Lead} {c : Cursor} {kind : ReadKind} {at : Spot} → Fails l c kind at → gap_class l ≡ None
fails_no_gap (Fails.string a) = refl
fails_no_gap (Fails.number w run none) = refl
fails_no_gap (Fails.colon a none) = refl
fails_no_gap (Fails.keyword a m) = refl
fails_no_gap (Fails.symbol m) = refl

fails_no_end : {l : Lead} {c : Cursor} {kind : ReadKind} {at : Spot} → Fails l c kind at → l ≢ lead.End
fails_no_end (Fails.string a) h = cc
fails_no_end (Fails.number w run none) h = cc
fails_no_end (Fails.colon a none) h = cc
fails_no_end (Fails.keyword a m) h = cc
fails_no_end (Fails.symbol m) h = cc

pub no_token : {c d : Cursor} {kind : ReadKind} {at : Spot} {t : Token} → IsNoToken c kind at → IsToken c t d → ⊥
no_token {d} {kind} {at} {t} a b =
    let begin : b.begin ≡ a.begin = Gap-same b.gap a.gap (no_gap b.is) (fails_no_gap a.fails) in
    fails_no_token a.fails (subst (λ x. Begins (lead_of x.rest) x t.kind d) begin b.is)

pub no_end : {c : Cursor} {kind : ReadKind} {at : Spot} → IsNoToken c kind at → IsEnd c → ⊥
no_end {c} a b =
    let lead : lead_of b.last.rest ≡ lead.End = rw b.ends refl in
    let none : gap_class (lead_of b.last.rest) ≡ None = rw lead refl in
    let begin : a.begin ≡ b.last = Gap-same a.gap b.gap (fails_no_gap a.fails) none in
    fails_no_end a.fails (ap (λ x. lead_of x.rest) begin ∙ lead)

-- where forms are to come there is a token or the end
pub form_token : {k : ℕ} {c d : Cursor} {form : Form} → IsForm k c form d → (t : Token) × (m : Cursor) × IsToken c t m
form_token (IsForm.atom {d} t a tok kind is) = (t, d, tok)
form_token (IsForm.bracket {i} t u g parts below n tok kind fs close k is) = (t, i, tok)
form_token (IsForm.at_sign {i} t part below tok kind p is) = (t, i, tok)

top_fails : (more : List Form) {c last : Cursor} {kind : ReadKind} {at : Spot} → IsNoToken c kind at → AreForms 0 c more last → IsEnd last → ⊥
top_fails [] a AreForms.none e = no_end a e
top_fails (f ∷ fs) a (AreForms.more is rest) e = let t = form_token is in no_token a t.2

inner_fails : (k : ℕ) (g : Group) (forms more : List Form) (d : Cursor) {c j : Cursor} {kind : ReadKind} {at : Spot} → IsNoToken c kind at → (is_at g ≡ true → forms ≡ [])
    → AreForms k c more j → Ends g (forms ++ more) j d → ⊥
unfolding Ends
inner_fails k g forms [] d a fresh AreForms.none (inl b) = one_is_some forms (fresh b.0) b.2
inner_fails k g forms [] d a fresh AreForms.none (inr b) = no_token a b.2
inner_fails k g forms (f ∷ fs) d a fresh (AreForms.more is rest) e = let t = form_token is in no_token a t.2

nothing_fails : (frames : List Frame) (forms : List Form) {c : Cursor} {kind : ReadKind} {at : Spot} (all : List Form) → IsNoToken c kind at → Fresh frames forms → Rest frames forms c all → ⊥
unfolding Rest Fresh
nothing_fails [] forms all a fresh r = top_fails r.0 a r.1.forms_to r.1.ends
nothing_fails (f ∷ fs) forms all a fresh r = inner_fails (length (f ∷ fs)) f.opened.group forms r.0 r.2 a fresh.0 r.3 r.4

-- a closing bracket that does not match
top_closes : (more : List Form) {c d last : Cursor} (t : Token) (g : Group) → IsToken c t d → t.kind ≡ Close g → AreForms 0 c more last → IsEnd last → ⊥
top_closes [] t g tok kind AreForms.none e = end_no_token e tok
top_closes (f ∷ fs) t g tok kind (AreForms.more is rest) e = no_form t g tok kind is

unmatched_fails : (frames : List Frame) (forms : List Form) {c d : Cursor} (t : Token) (g : Group) (all : List Form) → IsToken c t d → t.kind ≡ Close g → IsOther (opens_of frames) g
    → Fresh frames forms → Rest frames forms c all → ⊥
unfolding Rest
unmatched_fails [] forms t g all tok kind other fresh r = top_closes r.0 t g tok kind r.1.forms_to r.1.ends
unmatched_fails (f ∷ fs) forms t g all tok kind other fresh r = other ((close_out f fs forms t g all tok kind fresh r).groups)

-- an opening too many
open_below : {k : ℕ} {c d m : Cursor} {form : Form} (t : Token) (g : Group) → IsToken c t d → t.kind ≡ Open g → IsForm k c form m → k < nest_limit
open_below t g tok kind (IsForm.atom u b other also is) =
    absurd (let x : AtomKind b ≡ Open g = sym also ∙ ap (λ y. y.kind) ((IsToken-same other tok).tokens) ∙ kind in cc)
open_below t g tok kind (IsForm.bracket u v h parts below n other also fs close k is) = below
open_below t g tok kind (IsForm.at_sign u part below other also p is) = below

nested_fails : (frames : List Frame) (forms : List Form) {c d : Cursor} (t : Token) (g : Group) (all : List Form) → IsToken c t d → t.kind ≡ Open g → nest_limit ≤ length (opens_of frames)
    → Fresh frames forms → Rest frames forms c all → ⊥
nested_fails frames forms t g all tok kind full fresh r =
    let n = next_of frames forms all tok (λ h e. let x = sym kind ∙ e in cc) fresh r in
    let below = open_below t g tok kind n.is in
    omega (arith, below, full, length-map frames (λ (f : Frame). f.opened))

-- something open at the end
inner_ends : (k : ℕ) (g : Group) (forms more : List Form) (d : Cursor) {c j : Cursor} → IsEnd c → (is_at g ≡ true → forms ≡ [])
    → AreForms k c more j → Ends g (forms ++ more) j d → ⊥
unfolding Ends
inner_ends k g forms [] d a fresh AreForms.none (inl b) = one_is_some forms (fresh b.0) b.2
inner_ends k g forms [] d a fresh AreForms.none (inr b) = end_no_token a b.2
inner_ends k g forms (f ∷ fs) d a fresh (AreForms.more is rest) e = let t = form_token is in end_no_token a t.2

unclosed_fails : (frames : List Frame) (forms : List Form) {c : Cursor} (o : Opened) (os : List Opened) (all : List Form) → IsEnd c → o ∷ os ≡ opens_of frames
    → Fresh frames forms → Rest frames forms c all → ⊥
unfolding Rest Fresh
unclosed_fails [] forms o os all a e fresh r = cc
unclosed_fails (f ∷ fs) forms o os all a e fresh r = inner_ends (length (f ∷ fs)) f.opened.group forms r.0 r.2 a fresh.0 r.3 r.4

stops_fails : (frames : List Frame) (forms : List Form) {c : Cursor} {os : List Opened} {kind : ReadKind} {at : Spot} (all : List Form) → Stops c os kind at → os ≡ opens_of frames
    → Fresh frames forms → Rest frames forms c all → ⊥
stops_fails frames forms all (Stops.no_token a) e fresh r = nothing_fails frames forms all a fresh r
stops_fails frames forms all (Stops.unmatched t g tok kind other) e fresh r = unmatched_fails frames forms t g all tok kind (subst (λ x. IsOther x g) e other) fresh r
stops_fails frames forms all (Stops.too_nested t g tok kind full) e fresh r = nested_fails frames forms t g all tok kind (subst (λ x. nest_limit ≤ length x) e full) fresh r
stops_fails frames forms all (Stops.unclosed {os} o a) e fresh r = unclosed_fails frames forms o os all a e fresh r

-- what tokens leave open, a reader holds
record Reached (whole : Cursor) (os : List Opened) (c : Cursor) : Type 0 where
  nest : Nest
  opens : opens_of nest.frames ≡ os
  so_far : SoFar whole nest c

reached_close : {whole c d : Cursor} (frames : List Frame) (forms : List Form) (o : Opened) (os : List Opened) (t : Token) → SoFar whole (nest_of frames forms) c → opens_of frames ≡ o ∷ os
    → IsToken c t d → t.kind ≡ Close o.group → Reached whole (without_ats os) d
unfolding Fresh
reached_close [] forms o os t s e tok kind = absurd (cc)
reached_close (f ∷ fs) forms o os t s e tok kind =
    let first : f.opened ≡ o = cc in
    let rest : opens_of fs ≡ os = cc in
    let n = Settled-of fs f.before (group_form f.opened forms) s.fresh.1 in
    record {
      nest = settled fs (f.before ++ group_form f.opened forms ∷ []);
      opens = sym n.opens ∙ ap without_ats rest;
      so_far = take_close f fs forms t o.group s tok kind (ap (λ x. x.group) first);
    }

reached : {whole c : Cursor} {os : List Opened} → Leaves whole os c → Reached whole os c
reached {whole} Leaves.nothing = record { nest = nest_of [] []; opens = refl; so_far = SoFar-begin whole }
reached (Leaves.opening {os} t g l tok kind below) =
    let r = reached l in
    let count : length os ≡ length r.nest.frames = ap length (sym r.opens) ∙ length-map r.nest.frames (λ (f : Frame). f.opened) in
    record {
      nest = nest_of (frame_of (opened_of t.at g) r.nest.forms ∷ r.nest.frames) [];
      opens = ap (λ x. opened_of t.at g ∷ x) r.opens;
      so_far = take_open r.nest.frames r.nest.forms t g r.so_far tok kind (subst (λ x. x < nest_limit) count below);
    }
reached (Leaves.closing {os} t o l tok kind) = let r = reached l in reached_close r.nest.frames r.nest.forms o os t r.so_far r.opens tok kind
reached (Leaves.atom t a l tok kind) =
    let r = reached l in
    let n = Settled-of r.nest.frames r.nest.forms (form_at t.at (atom_kind a)) r.so_far.fresh in
    record {
      nest = settled r.nest.frames (r.nest.forms ++ form_at t.at (atom_kind a) ∷ []);
      opens = sym n.opens ∙ ap without_ats r.opens;
      so_far = take_atom r.nest.frames r.nest.forms t a r.so_far tok kind;
    }

pub never_both : (bytes : List ℕ) (forms : List Form) (kind : ReadKind) (at : Spot) → IsSource bytes forms → IsRefused bytes kind at → ⊥
never_both bytes forms kind at s (IsRefused.too_long long) = omega (arith, s.within, long)
never_both bytes forms kind at s (IsRefused.no_text within not) = not s.text
never_both bytes forms kind at s (IsRefused.token os c within text l stops) =
    let r = reached l in stops_fails r.nest.frames r.nest.forms forms stops (sym r.opens) r.so_far.fresh (r.so_far.only forms s.spelled)
