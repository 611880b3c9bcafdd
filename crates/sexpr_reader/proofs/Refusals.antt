-- Bytes are refused in one way at most.
use Rattle.std.proofs.Common.{◌≡◌, ◌<◌, inl, inr, ℕ, true, List, [], ◌∷◌, length, refl, sym, ◌∙◌, ap, subst, arith}
use Rattle.value_core.specs.Place.{Spot}
use Rattle.sexpr_reader.specs.declared.error.ReadKind.{ReadKind}
use Rattle.sexpr_reader.specs.declared.group.Group.{Group}
use Rattle.sexpr_reader.specs.declared.group.Opened.{Opened}
use Rattle.sexpr_reader.specs.declared.lead.Lead.{Lead}
use Rattle.sexpr_reader.specs.declared.token.Atom.{Atom}
use Rattle.sexpr_reader.specs.declared.token.Token.{Token}
use Rattle.sexpr_reader.specs.declared.token.TokenKind.TheVariants.{Open, Close, Atom as AtomKind}
use Rattle.sexpr_reader.specs.Bytes.{is_later_byte}
use Rattle.sexpr_reader.specs.Cursor.{Cursor}
use Rattle.sexpr_reader.specs.Grammar.{Stops, IsRefused}
use Rattle.sexpr_reader.specs.Lead.{begins, lead_of, is_word_byte}
use Rattle.sexpr_reader.specs.Limits.{nest_limit}
use Rattle.sexpr_reader.specs.Names.{Misfit}
use Rattle.sexpr_reader.specs.Opens.{without_ats, Leaves}
use Rattle.sexpr_reader.specs.Strings.{Content, StringStops}
use Rattle.sexpr_reader.specs.Tokens.{Fails, IsToken, IsNoToken}
use Rattle.sexpr_reader.proofs.Cursors.{Over-same}
use Rattle.sexpr_reader.proofs.Same.{run_same, Gap-same, OneByte-same, Written-same, name_word, IsToken-same, end_no_token}
use Rattle.sexpr_reader.proofs.Never.{no_token, no_end, no_stop, fails_no_gap}
use Rattle.sexpr_reader.proofs.Unique.{kinds_of}

-- a token more
data Step : List Opened → Cursor → List Opened → Cursor → Type 0 where
  opening : {c e : Cursor} {os : List Opened} (t : Token) (g : Group) → IsToken c t e → t.kind ≡ Open g → length os < nest_limit → Step os c (record { at = t.at; group = g } ∷ os) e
  closing : {c e : Cursor} {os : List Opened} (t : Token) (o : Opened) → IsToken c t e → t.kind ≡ Close o.group → Step (o ∷ os) c (without_ats os) e
  atom : {c e : Cursor} {os : List Opened} (t : Token) (a : Atom) → IsToken c t e → t.kind ≡ AtomKind a → Step os c (without_ats os) e

data Path : List Opened → Cursor → List Opened → Cursor → Type 0 where
  here : {c : Cursor} {os : List Opened} → Path os c os c
  on : {c d e : Cursor} {os ps qs : List Opened} → Step os c ps d → Path ps d qs e → Path os c qs e

path_more : {c d e : Cursor} {os ps qs : List Opened} → Path os c ps d → Step ps d qs e → Path os c qs e
path_more Path.here s = Path.on s Path.here
path_more (Path.on r p) s = Path.on r (path_more p s)

path_of : {whole c : Cursor} {os : List Opened} → Leaves whole os c → Path [] whole os c
path_of Leaves.nothing = Path.here
path_of (Leaves.opening t g l tok kind below) = path_more (path_of l) (Step.opening t g tok kind below)
path_of (Leaves.closing t o l tok kind) = path_more (path_of l) (Step.closing t o tok kind)
path_of (Leaves.atom t a l tok kind) = path_more (path_of l) (Step.atom t a tok kind)

record SameStep (ps qs : List Opened) (d e : Cursor) : Type 0 where
  opens : ps ≡ qs
  ends : d ≡ e

step_same : {c d e : Cursor} {os ps qs : List Opened} → Step os c ps d → Step os c qs e → SameStep ps qs d e
step_same {os} (Step.opening t g tok kind below) (Step.opening u h other also under) =
    let s = IsToken-same tok other in
    let x : Open g ≡ Open h = kinds_of tok kind other also in
    let groups : g ≡ h = cc in
    let made : Spot → Group → Opened = λ at group. record { at = at; group = group } in
    record { opens = ap (λ y. made y.at g ∷ os) s.tokens ∙ ap (λ y. made u.at y ∷ os) groups; ends = s.ends }
step_same (Step.closing t o tok kind) (Step.closing u p other also) = record { opens = refl; ends = (IsToken-same tok other).ends }
step_same (Step.atom t a tok kind) (Step.atom u b other also) = record { opens = refl; ends = (IsToken-same tok other).ends }
step_same (Step.opening t g tok kind below) (Step.closing u p other also) = absurd (let x : Open g ≡ Close p.group = kinds_of tok kind other also in cc)
step_same (Step.closing u p other also) (Step.opening t g tok kind below) = absurd (let x : Open g ≡ Close p.group = kinds_of tok kind other also in cc)
step_same (Step.opening t g tok kind below) (Step.atom u a other also) = absurd (let x : Open g ≡ AtomKind a = kinds_of tok kind other also in cc)
step_same (Step.atom u a other also) (Step.opening t g tok kind below) = absurd (let x : Open g ≡ AtomKind a = kinds_of tok kind other also in cc)
step_same (Step.closing t o tok kind) (Step.atom u a other also) = absurd (let x : Close o.group ≡ AtomKind a = kinds_of tok kind other also in cc)
step_same (Step.atom u a other also) (Step.closing t o tok kind) = absurd (let x : Close o.group ≡ AtomKind a = kinds_of tok kind other also in cc)

-- where the tokens stop no token is taken
stops_no_step : {c d : Cursor} {os ps : List Opened} {kind : ReadKind} {at : Spot} → Stops c os kind at → Step os c ps d → ⊥
stops_no_step (Stops.no_token a) (Step.opening t g tok kind below) = no_token a tok
stops_no_step (Stops.no_token a) (Step.closing t o tok kind) = no_token a tok
stops_no_step (Stops.no_token a) (Step.atom t b tok kind) = no_token a tok
stops_no_step (Stops.unmatched u h other also apart) (Step.opening t g tok kind below) = let x : Open g ≡ Close h = kinds_of tok kind other also in cc
stops_no_step (Stops.unmatched u h other also apart) (Step.closing t o tok kind) = let x : Close o.group ≡ Close h = kinds_of tok kind other also in apart (cc)
stops_no_step (Stops.unmatched u h other also apart) (Step.atom t a tok kind) = let x : AtomKind a ≡ Close h = kinds_of tok kind other also in cc
stops_no_step (Stops.too_nested u h other also full) (Step.opening t g tok kind below) = omega (arith, below, full)
stops_no_step (Stops.too_nested u h other also full) (Step.closing t o tok kind) = let x : Close o.group ≡ Open h = kinds_of tok kind other also in cc
stops_no_step (Stops.too_nested u h other also full) (Step.atom t a tok kind) = let x : AtomKind a ≡ Open h = kinds_of tok kind other also in cc
stops_no_step (Stops.unclosed p e) (Step.opening t g tok kind below) = end_no_token e tok
stops_no_step (Stops.unclosed p e) (Step.closing t o tok kind) = end_no_token e tok
stops_no_step (Stops.unclosed p e) (Step.atom t a tok kind) = end_no_token e tok

pub record SameRefusal (k l : ReadKind) (at bt : Spot) : Type 0 where
  pub kinds : k ≡ l
  pub places : at ≡ bt

-- two fronts of one source at which its tokens stop are one
record SameFront (os qs : List Opened) (c e : Cursor) : Type 0 where
  opens : os ≡ qs
  ends : c ≡ e

paths_same : {a c e : Cursor} {os ps qs : List Opened} {k l : ReadKind} {at bt : Spot} → Path ps a os c → Stops c os k at → Path ps a qs e → Stops e qs l bt → SameFront os qs c e
paths_same Path.here s Path.here r = record { opens = refl; ends = refl }
paths_same Path.here s (Path.on x p) r = absurd (stops_no_step s x)
paths_same (Path.on x p) s Path.here r = absurd (stops_no_step r x)
paths_same {e} {qs} (Path.on {d} {ps} x p) s (Path.on {d = f} {ps = rs} y q) r =
    let one = step_same x y in
    paths_same p s (subst (λ z. Path ps z qs e) (sym one.ends) (subst (λ z. Path z f qs e) (sym one.opens) q)) r

-- what stops a string
pieces_same : {n : Cursor} {quote at bt : Spot} {k l : ReadKind} → StringStops quote n k at → StringStops quote n l bt → SameRefusal k l at bt
pieces_same (inl a) (inl b) = record { kinds = a.1 ∙ sym b.1; places = a.2 ∙ sym b.2 }
pieces_same (inl a) (inr (inl b)) = absurd (let x = sym a.0 ∙ b.0 in cc)
pieces_same (inl a) (inr (inr b)) = absurd (let x = sym a.0 ∙ b.2 in cc)
pieces_same (inr (inl a)) (inl b) = absurd (let x = sym a.0 ∙ b.0 in cc)
pieces_same (inr (inl a)) (inr (inl b)) = record { kinds = a.1 ∙ sym b.1; places = a.2 ∙ sym b.2 }
pieces_same (inr (inl a)) (inr (inr b)) = absurd (let x = sym a.0 ∙ b.2 in cc)
pieces_same (inr (inr a)) (inl b) = absurd (let x = sym a.2 ∙ b.0 in cc)
pieces_same (inr (inr a)) (inr (inl b)) = absurd (let x = sym a.2 ∙ b.0 in cc)
pieces_same (inr (inr a)) (inr (inr b)) = record { kinds = a.4 ∙ sym b.4; places = a.5 ∙ sym b.5 }

contents_same : {c n m : Cursor} {t u : List ℕ} {quote at bt : Spot} {k l : ReadKind} → Content c t n → StringStops quote n k at → Content c u m → StringStops quote m l bt → SameRefusal k l at bt
contents_same Content.none a Content.none b = pieces_same a b
contents_same Content.none a (Content.more w r) b = absurd (no_stop w a)
contents_same (Content.more w r) a Content.none b = absurd (no_stop w b)
contents_same {m} (Content.more w r) a (Content.more {bs = xs} v s) b =
    let one = Written-same w v in
    contents_same r a (subst (λ y. Content y xs m) (sym one.ends) s) b

misfits_same : {c : Cursor} {at bt : Spot} → Misfit c at → Misfit c bt → at ≡ bt
misfits_same (Misfit.first w n) (Misfit.first v m) = refl
misfits_same (Misfit.first w n) (Misfit.later t f run more) = absurd (let x = sym n ∙ f in cc)
misfits_same (Misfit.later t f run more) (Misfit.first w n) = absurd (let x = sym n ∙ f in cc)
misfits_same (Misfit.later t f run more) (Misfit.later u g other also) = ap (λ x. x.at) ((run_same is_later_byte t u run other).1)

misfit_word : {c : Cursor} {at : Spot} → Misfit c at → begins is_word_byte c.rest ≡ true
misfit_word (Misfit.first w n) = w
misfit_word {c} (Misfit.later t f run more) = name_word c.rest f

fails_same : {x : Lead} {c : Cursor} {k l : ReadKind} {at bt : Spot} → Fails x c k at → Fails x c l bt → SameRefusal k l at bt
fails_same (Fails.string a) (Fails.string b) =
    let same = Over-same (34 ∷ []) b.opens a.opens in
    contents_same a.content a.stops (subst (λ y. Content y b.text b.stop) same b.content) b.stops
fails_same (Fails.number w run none) (Fails.number u other nothing) = record { kinds = refl; places = refl }
fails_same (Fails.colon a none) (Fails.colon b nothing) = record { kinds = refl; places = refl }
fails_same (Fails.colon a none) (Fails.keyword b m) =
    absurd (let x = sym none ∙ subst (λ y. begins is_word_byte y.rest ≡ true) (OneByte-same b a) (misfit_word m) in cc)
fails_same (Fails.keyword b m) (Fails.colon a none) =
    absurd (let x = sym none ∙ subst (λ y. begins is_word_byte y.rest ≡ true) (OneByte-same b a) (misfit_word m) in cc)
fails_same {bt} (Fails.keyword a m) (Fails.keyword b n) =
    record { kinds = refl; places = misfits_same m (subst (λ y. Misfit y bt) (OneByte-same b a) n) }
fails_same (Fails.symbol m) (Fails.symbol n) = record { kinds = refl; places = misfits_same m n }

no_token_same : {c : Cursor} {k l : ReadKind} {at bt : Spot} → IsNoToken c k at → IsNoToken c l bt → SameRefusal k l at bt
no_token_same {l} {bt} a b =
    let begin = Gap-same b.gap a.gap (fails_no_gap b.fails) (fails_no_gap a.fails) in
    fails_same a.fails (subst (λ x. Fails (lead_of x.rest) x l bt) begin b.fails)

place_same : {c d e : Cursor} {t u : Token} → IsToken c t d → IsToken c u e → t.at ≡ u.at
place_same a b = ap (λ x. x.at) ((IsToken-same a b).tokens)

stops_same : {c : Cursor} {os : List Opened} {k l : ReadKind} {at bt : Spot} → Stops c os k at → Stops c os l bt → SameRefusal k l at bt
stops_same (Stops.no_token a) (Stops.no_token b) = no_token_same a b
stops_same (Stops.no_token a) (Stops.unmatched u h other also apart) = absurd (no_token a other)
stops_same (Stops.no_token a) (Stops.too_nested u h other also full) = absurd (no_token a other)
stops_same (Stops.no_token a) (Stops.unclosed o e) = absurd (no_end a e)
stops_same (Stops.unmatched u h other also apart) (Stops.no_token a) = absurd (no_token a other)
stops_same (Stops.too_nested u h other also full) (Stops.no_token a) = absurd (no_token a other)
stops_same (Stops.unclosed o e) (Stops.no_token a) = absurd (no_end a e)
stops_same (Stops.unmatched t g tok kind far) (Stops.unmatched u h other also apart) = record { kinds = refl; places = place_same tok other }
stops_same (Stops.unmatched t g tok kind far) (Stops.too_nested u h other also full) = absurd (let x : Close g ≡ Open h = kinds_of tok kind other also in cc)
stops_same (Stops.too_nested u h other also full) (Stops.unmatched t g tok kind far) = absurd (let x : Close g ≡ Open h = kinds_of tok kind other also in cc)
stops_same (Stops.too_nested t g tok kind much) (Stops.too_nested u h other also full) = record { kinds = refl; places = place_same tok other }
stops_same (Stops.unmatched t g tok kind far) (Stops.unclosed o e) = absurd (end_no_token e tok)
stops_same (Stops.unclosed o e) (Stops.unmatched t g tok kind far) = absurd (end_no_token e tok)
stops_same (Stops.too_nested t g tok kind much) (Stops.unclosed o e) = absurd (end_no_token e tok)
stops_same (Stops.unclosed o e) (Stops.too_nested t g tok kind much) = absurd (end_no_token e tok)
stops_same (Stops.unclosed o e) (Stops.unclosed p f) = record { kinds = refl; places = refl }

pub one_refusal : (bytes : List ℕ) (k l : ReadKind) (at bt : Spot) → IsRefused bytes k at → IsRefused bytes l bt → SameRefusal k l at bt
one_refusal bytes k l at bt (IsRefused.too_long a) (IsRefused.too_long b) = record { kinds = refl; places = refl }
one_refusal bytes k l at bt (IsRefused.too_long a) (IsRefused.no_text b n) = absurd (omega (arith, a, b))
one_refusal bytes k l at bt (IsRefused.too_long a) (IsRefused.token os c b text p s) = absurd (omega (arith, a, b))
one_refusal bytes k l at bt (IsRefused.no_text b n) (IsRefused.too_long a) = absurd (omega (arith, a, b))
one_refusal bytes k l at bt (IsRefused.token os c b text p s) (IsRefused.too_long a) = absurd (omega (arith, a, b))
one_refusal bytes k l at bt (IsRefused.no_text a n) (IsRefused.no_text b m) = record { kinds = refl; places = refl }
one_refusal bytes k l at bt (IsRefused.no_text a n) (IsRefused.token os c b text p s) = absurd (n text)
one_refusal bytes k l at bt (IsRefused.token os c b text p s) (IsRefused.no_text a n) = absurd (n text)
one_refusal bytes k l at bt (IsRefused.token os c a text p s) (IsRefused.token qs e b also q r) =
    let same = paths_same (path_of p) s (path_of q) r in
    stops_same s (subst (λ z. Stops z os l bt) (sym same.ends) (subst (λ z. Stops e z l bt) (sym same.opens) r))
