-- What the reader has of a source, token by token.
use Rattle.std.proofs.Common.{◌≡◌, ◌≢◌, ◌<◌, ◌≤◌, ◌⊎◌, inl, inr, ℕ, suc, Bool, true, false, List, [], ◌∷◌, ◌++◌, length, refl, sym, ◌∙◌, ap, subst, cond, arith, append_assoc, append-nil}
use Rattle.std.proofs.lemmas.List.{length-map}
use Rattle.std.specs.Prelude.{Option, None, Some, Result, Ok, Err, IfOk, IfErr, take}
use Rattle.std.specs.Str.{IsUtf8}
use Rattle.std.specs.Str.Lossy.{utf8_valid_len}
use Rattle.value_core.specs.Place.{Spot}
use Rattle.sexpr_reader.specs.declared.error.ReadKind.{ReadKind}
use Rattle.sexpr_reader.specs.declared.error.ReadKind.TheVariants.{BadByte, Unclosed}
use Rattle.sexpr_reader.specs.declared.error.ReadNo.{ReadNo}
use Rattle.sexpr_reader.specs.declared.error.ReadNo.TheVariants.{Refused, Memory}
use Rattle.sexpr_reader.specs.declared.form.Form.{Form}
use Rattle.sexpr_reader.specs.declared.frame.Frame.{Frame}
use Rattle.sexpr_reader.specs.declared.group.Group.{Group}
use Rattle.sexpr_reader.specs.declared.group.Group.TheVariants.{List as ListGroup, Vector, Map, At}
use Rattle.sexpr_reader.specs.declared.token.Atom.{Atom}
use Rattle.sexpr_reader.specs.declared.token.Token.{Token}
use Rattle.sexpr_reader.specs.declared.token.TokenKind.{TokenKind}
use Rattle.sexpr_reader.specs.declared.token.TokenKind.TheVariants.{Open, Close, Atom as AtomKind}
use Rattle.sexpr_reader.specs.Cursor.{Cursor, start, after}
use Rattle.sexpr_reader.specs.Forms.{form_at, group_kind, atom_kind, IsForm, AreForms, Spells}
use Rattle.sexpr_reader.specs.Grammar.{IsOther, Stops, RefusedAs, IsRefused, source}
use Rattle.sexpr_reader.specs.Limits.{nest_limit, source_limit}
use Rattle.sexpr_reader.specs.Steps.{IsNext}
use Rattle.sexpr_reader.specs.Nest.{Nest, nest_of, opened_of, frame_of, group_form, opens_of, settled, IsInnermost, Moves, Blocks, Finishes}
use Rattle.sexpr_reader.specs.Opens.{is_at, without_ats, Leaves}
use Rattle.sexpr_reader.specs.Tokens.{IsToken, IsEnd}
use Rattle.sexpr_reader.proofs.Same.{IsToken-same, end_no_token, no_close_at}

-- the parts of a group are there, and what ends it leads to a cursor
unfoldable pub Ends : Group → List Form → Cursor → Cursor → Type 0
Ends g parts j d =
    ((is_at g ≡ true) × (j ≡ d) × (length parts ≡ 1))
    ⊎ ((is_at g ≡ false) × (u : Token) × IsToken j u d × (u.kind ≡ Close g))

-- what stands from a cursor on completes what is open there to all the forms
unfoldable pub Rest : List Frame → List Form → Cursor → List Form → Type 0
Rest [] forms c all = (more : List Form) × Spells c more × (all ≡ forms ++ more)
Rest (f ∷ fs) forms c all = (more : List Form) × (j : Cursor) × (d : Cursor) × AreForms (length (f ∷ fs)) c more j
    × Ends f.opened.group (forms ++ more) j d × Rest fs (f.before ++ group_form f.opened (forms ++ more) ∷ []) d all

-- an @ has no form before its own
unfoldable pub Fresh : List Frame → List Form → Type 0
Fresh [] forms = Unit {0}
Fresh (f ∷ fs) forms = (is_at f.opened.group ≡ true → forms ≡ []) × Fresh fs f.before

Spells-none : {c : Cursor} → IsEnd c → Spells c []
Spells-none {c} e = record { last = c; forms_to = AreForms.none; ends = e }

-- a form more
module _ (form : Form) (c m : Cursor) (all : List Form) where
  push_in : (frames : List Frame) (forms : List Form) → IsForm (length frames) c form m → Rest frames (forms ++ form ∷ []) m all → Rest frames forms c all
  unfolding Rest Ends
  push_in [] forms is r =
      (form ∷ r.0, record { last = r.1.last; forms_to = AreForms.more is r.1.forms_to; ends = r.1.ends }, r.2 ∙ append_assoc forms (form ∷ []) r.0)
  push_in (f ∷ fs) forms is r =
      let e : (forms ++ form ∷ []) ++ r.0 ≡ forms ++ form ∷ r.0 = append_assoc forms (form ∷ []) r.0 in (
        form ∷ r.0,
        r.1,
        r.2,
        AreForms.more is r.3,
        subst (λ x. Ends f.opened.group x r.1 r.2) e r.4,
        subst (λ x. Rest fs (f.before ++ group_form f.opened x ∷ []) r.2 all) e r.5,
      )

-- where a token stands that closes nothing, a form does
pub record Next (frames : List Frame) (forms : List Form) (c : Cursor) (all : List Form) : Type 0 where
  pub form : Form
  pub behind : Cursor
  pub is : IsForm (length frames) c form behind
  pub rest : Rest frames (forms ++ form ∷ []) behind all

no_close : {g : Group} {k : TokenKind} → k ≡ Close g → ((h : Group) → k ≢ Close h) → ⊥
no_close {g} e n = n g e

pub one_is_some : (forms : List Form) → forms ≡ [] → length (forms ++ []) ≡ 1 → ⊥
one_is_some [] e h = omega (arith, h)
one_is_some (f ∷ fs) e h = cc

next_top : (forms more : List Form) {c d : Cursor} {t : Token} (all : List Form) → IsToken c t d → Spells c more → all ≡ forms ++ more → Next [] forms c all
unfolding Rest
next_top forms more {c} {d} {t} all tok s e = by_forms more s.forms_to s.ends e where
  by_forms : (more : List Form) {last : Cursor} → AreForms 0 c more last → IsEnd last → all ≡ forms ++ more → Next [] forms c all
  by_forms [] AreForms.none ends e = absurd (end_no_token ends tok)
  by_forms (f ∷ fs) {last} (AreForms.more {m} is rest) ends e =
      record { form = f; behind = m; is = is; rest = (fs, record { last = last; forms_to = rest; ends = ends }, e ∙ sym (append_assoc forms (f ∷ []) fs)) }

next_in : (f : Frame) (fs : List Frame) (forms more : List Form) (e : Cursor) {c d j : Cursor} {t : Token} (all : List Form)
    → IsToken c t d → ((h : Group) → t.kind ≢ Close h) → (is_at f.opened.group ≡ true → forms ≡ [])
    → AreForms (length (f ∷ fs)) c more j → Ends f.opened.group (forms ++ more) j e
    → Rest fs (f.before ++ group_form f.opened (forms ++ more) ∷ []) e all → Next (f ∷ fs) forms c all
unfolding Rest Ends
next_in f fs forms [] e all tok n fresh AreForms.none (inl a) r = absurd (one_is_some forms (fresh a.0) a.2)
next_in f fs forms [] e {t} all tok n fresh AreForms.none (inr b) r =
    let s = IsToken-same b.2 tok in
    let k : t.kind ≡ Close f.opened.group = ap (λ x. x.kind) (sym s.tokens) ∙ b.3 in
    absurd (n f.opened.group k)
next_in f fs forms (g ∷ gs) e {j} all tok n fresh (AreForms.more {m} is rest) ends r =
    let x : forms ++ g ∷ gs ≡ (forms ++ g ∷ []) ++ gs = sym (append_assoc forms (g ∷ []) gs) in
    record {
      form = g;
      behind = m;
      is = is;
      rest = (gs, j, e, rest, subst (λ y. Ends f.opened.group y j e) x ends, subst (λ y. Rest fs (f.before ++ group_form f.opened y ∷ []) e all) x r);
    }

pub next_of : (frames : List Frame) (forms : List Form) {c d : Cursor} {t : Token} (all : List Form)
    → IsToken c t d → ((h : Group) → t.kind ≢ Close h) → Fresh frames forms → Rest frames forms c all → Next frames forms c all
unfolding Rest Fresh
next_of [] forms all tok n fresh r = next_top forms r.0 all tok r.1 r.2
next_of (f ∷ fs) forms all tok n fresh r = next_in f fs forms r.0 r.2 all tok n fresh.0 r.3 r.4 r.5

-- an atom
record AtomForm (t : Token) (a : Atom) (form : Form) (d m : Cursor) : Type 0 where
  forms : form ≡ form_at t.at (atom_kind a)
  ends : m ≡ d

atom_only : {k : ℕ} {c d m : Cursor} {form : Form} (t : Token) (a : Atom) → IsToken c t d → t.kind ≡ AtomKind a → IsForm k c form m → AtomForm t a form d m
atom_only t a tok kind (IsForm.atom u b other also is) =
    let s = IsToken-same other tok in
    let k : AtomKind b ≡ AtomKind a = sym also ∙ ap (λ x. x.kind) s.tokens ∙ kind in
    let same : b ≡ a = cc in
    record { forms = is ∙ ap (λ x. form_at x.at (atom_kind b)) s.tokens ∙ ap (λ x. form_at t.at (atom_kind x)) same; ends = s.ends }
atom_only t a tok kind (IsForm.bracket u v g parts h n other also fs close k is) =
    let s = IsToken-same other tok in
    let x : Open g ≡ AtomKind a = sym also ∙ ap (λ y. y.kind) s.tokens ∙ kind in absurd (cc)
atom_only t a tok kind (IsForm.at_sign u part h other also p is) =
    let s = IsToken-same other tok in
    let x : Open At ≡ AtomKind a = sym also ∙ ap (λ y. y.kind) s.tokens ∙ kind in absurd (cc)

atom_out : (frames : List Frame) (forms : List Form) {c d : Cursor} (t : Token) (a : Atom) (all : List Form)
    → IsToken c t d → t.kind ≡ AtomKind a → Fresh frames forms → Rest frames forms c all → Rest frames (forms ++ form_at t.at (atom_kind a) ∷ []) d all
atom_out frames forms {c} {d} t a all tok kind fresh r =
    let n = next_of frames forms all tok (λ h e. let x = sym kind ∙ e in cc) fresh r in
    let o = atom_only t a tok kind n.is in
    let first : Rest frames (forms ++ n.form ∷ []) d all = subst (λ x. Rest frames (forms ++ n.form ∷ []) x all) o.ends n.rest in
    subst (λ x. Rest frames (forms ++ x ∷ []) d all) o.forms first

atom_in : (frames : List Frame) (forms : List Form) {c d : Cursor} (t : Token) (a : Atom) (all : List Form)
    → IsToken c t d → t.kind ≡ AtomKind a → Rest frames (forms ++ form_at t.at (atom_kind a) ∷ []) d all → Rest frames forms c all
atom_in frames forms {c} {d} t a all tok kind r =
    push_in (form_at t.at (atom_kind a)) c d all frames forms (IsForm.atom t a tok kind refl) r

-- an opening
is_at_only : (g : Group) → is_at g ≡ true → g ≡ At
is_at_only ListGroup e = absurd (cc)
is_at_only Vector e = absurd (cc)
is_at_only Map e = absurd (cc)
is_at_only At e = refl

not_at : (g : Group) → g ≢ At → is_at g ≡ false
not_at ListGroup e = refl
not_at Vector e = refl
not_at Map e = refl
not_at At e = absurd (e refl)

at_not : (g : Group) → is_at g ≡ false → g ≢ At
at_not g e h = let x : is_at At ≡ false = subst (λ y. is_at y ≡ false) h e in absurd (cc)

open_next : (frames : List Frame) (forms : List Form) {c i m : Cursor} {form : Form} (t : Token) (g : Group) (all : List Form)
    → IsToken c t i → t.kind ≡ Open g → IsForm (length frames) c form m → Rest frames (forms ++ form ∷ []) m all
    → Rest (frame_of (opened_of t.at g) forms ∷ frames) [] i all
unfolding Rest Ends
open_next frames forms t g all tok kind (IsForm.atom u b other also is) r =
    let s = IsToken-same other tok in
    let x : AtomKind b ≡ Open g = sym also ∙ ap (λ y. y.kind) s.tokens ∙ kind in absurd (cc)
open_next frames forms {i} {m} {form} t g all tok kind (IsForm.bracket {j} u v h parts below n other also fs close k is) r =
    let s = IsToken-same other tok in
    let x : Open h ≡ Open g = sym also ∙ ap (λ y. y.kind) s.tokens ∙ kind in
    let groups : h ≡ g = cc in
    let inside : AreForms (length (frame_of (opened_of t.at g) forms ∷ frames)) i parts j = subst (λ y. AreForms (suc (length frames)) y parts j) s.ends fs in
    let bracket : is_at g ≡ false = subst (λ y. is_at y ≡ false) groups (not_at h n) in
    let closes : v.kind ≡ Close g = k ∙ ap Close groups in
    let made : form ≡ group_form (opened_of t.at g) parts =
    is ∙ ap (λ y. form_at y.at (group_kind h parts)) s.tokens ∙ ap (λ y. form_at t.at (group_kind y parts)) groups in
    (parts, j, m, inside, inr (bracket, v, close, closes), subst (λ y. Rest frames (forms ++ y ∷ []) m all) made r)
open_next frames forms {i} {m} {form} t g all tok kind (IsForm.at_sign u part below other also p is) r =
    let s = IsToken-same other tok in
    let x : Open At ≡ Open g = sym also ∙ ap (λ y. y.kind) s.tokens ∙ kind in
    let groups : At ≡ g = cc in
    let inside : IsForm (suc (length frames)) i part m = subst (λ y. IsForm (suc (length frames)) y part m) s.ends p in
    let at : is_at g ≡ true = subst (λ y. is_at y ≡ true) groups refl in
    let made : form ≡ group_form (opened_of t.at g) (part ∷ []) =
    is ∙ ap (λ y. form_at y.at (group_kind At (part ∷ []))) s.tokens ∙ ap (λ y. form_at t.at (group_kind y (part ∷ []))) groups in
    (part ∷ [], m, m, AreForms.more inside AreForms.none, inl (at, refl, refl), subst (λ y. Rest frames (forms ++ y ∷ []) m all) made r)

open_out : (frames : List Frame) (forms : List Form) {c i : Cursor} (t : Token) (g : Group) (all : List Form)
    → IsToken c t i → t.kind ≡ Open g → Fresh frames forms → Rest frames forms c all → Rest (frame_of (opened_of t.at g) forms ∷ frames) [] i all
open_out frames forms t g all tok kind fresh r =
    let n = next_of frames forms all tok (λ h e. let x = sym kind ∙ e in cc) fresh r in
    open_next frames forms t g all tok kind n.is n.rest

open_back : (frames : List Frame) (forms more : List Form) (d : Cursor) {c i j : Cursor} (t : Token) (g : Group) (all : List Form)
    → IsToken c t i → t.kind ≡ Open g → length frames < nest_limit → AreForms (suc (length frames)) i more j → Ends g more j d
    → Rest frames (forms ++ group_form (opened_of t.at g) more ∷ []) d all → Rest frames forms c all
unfolding Ends
open_back frames forms more d {c} t g all tok kind below fs (inr b) r =
    push_in (group_form (opened_of t.at g) more) c d all frames forms
    (IsForm.bracket t b.1 g more below (at_not g b.0) tok kind fs b.2 b.3 refl) r
open_back frames forms [] d t g all tok kind below fs (inl a) r = absurd (omega (arith, a.2))
open_back frames forms (p ∷ []) d {c} {i} t g all tok kind below (AreForms.more is AreForms.none) (inl a) r =
    let group : g ≡ At = is_at_only g a.0 in
    let inside : IsForm (suc (length frames)) i p d = subst (λ y. IsForm (suc (length frames)) i p y) a.1 is in
    let made : group_form (opened_of t.at g) (p ∷ []) ≡ form_at t.at (group_kind At (p ∷ [])) = ap (λ y. form_at t.at (group_kind y (p ∷ []))) group in
    push_in (group_form (opened_of t.at g) (p ∷ [])) c d all frames forms
    (IsForm.at_sign t p below tok (kind ∙ ap Open group) inside made) r
open_back frames forms (p ∷ q ∷ ps) d t g all tok kind below fs (inl a) r = absurd (omega (arith, a.2))

open_in : (frames : List Frame) (forms : List Form) {c i : Cursor} (t : Token) (g : Group) (all : List Form)
    → IsToken c t i → t.kind ≡ Open g → length frames < nest_limit → Rest (frame_of (opened_of t.at g) forms ∷ frames) [] i all → Rest frames forms c all
unfolding Rest
open_in frames forms t g all tok kind below r = open_back frames forms r.0 r.2 t g all tok kind below r.3 r.4 r.5

-- no form begins with what closes
pub no_form : {k : ℕ} {c d m : Cursor} {form : Form} (t : Token) (g : Group) → IsToken c t d → t.kind ≡ Close g → IsForm k c form m → ⊥
no_form t g tok kind (IsForm.atom u b other also is) =
    let s = IsToken-same other tok in let x : AtomKind b ≡ Close g = sym also ∙ ap (λ y. y.kind) s.tokens ∙ kind in cc
no_form t g tok kind (IsForm.bracket u v h parts below n other also fs close k is) =
    let s = IsToken-same other tok in let x : Open h ≡ Close g = sym also ∙ ap (λ y. y.kind) s.tokens ∙ kind in cc
no_form t g tok kind (IsForm.at_sign u part below other also p is) =
    let s = IsToken-same other tok in let x : Open At ≡ Close g = sym also ∙ ap (λ y. y.kind) s.tokens ∙ kind in cc

-- what a closing bracket closes, if anything
pub record Closed (f : Frame) (fs : List Frame) (forms : List Form) (d : Cursor) (g : Group) (all : List Form) : Type 0 where
  pub groups : f.opened.group ≡ g
  pub rest : Rest fs (f.before ++ group_form f.opened forms ∷ []) d all

close_here : (f : Frame) (fs : List Frame) (forms more : List Form) (e : Cursor) {c d j : Cursor} (t : Token) (g : Group) (all : List Form)
    → IsToken c t d → t.kind ≡ Close g → (is_at f.opened.group ≡ true → forms ≡ []) → AreForms (length (f ∷ fs)) c more j
    → Ends f.opened.group (forms ++ more) j e → Rest fs (f.before ++ group_form f.opened (forms ++ more) ∷ []) e all → Closed f fs forms d g all
unfolding Ends
close_here f fs forms [] e t g all tok kind fresh AreForms.none (inl a) r = absurd (one_is_some forms (fresh a.0) a.2)
close_here f fs forms [] e {d} t g all tok kind fresh AreForms.none (inr b) r =
    let s = IsToken-same b.2 tok in
    let k : Close f.opened.group ≡ Close g = sym b.3 ∙ ap (λ x. x.kind) s.tokens ∙ kind in
    let same : f.opened.group ≡ g = cc in
    let there : Rest fs (f.before ++ group_form f.opened (forms ++ []) ∷ []) d all = subst (λ x. Rest fs (f.before ++ group_form f.opened (forms ++ []) ∷ []) x all) s.ends r in
    record { groups = same; rest = subst (λ x. Rest fs (f.before ++ group_form f.opened x ∷ []) d all) (append-nil forms) there }
close_here f fs forms (p ∷ ps) e t g all tok kind fresh (AreForms.more is rest) ends r = absurd (no_form t g tok kind is)

pub close_out : (f : Frame) (fs : List Frame) (forms : List Form) {c d : Cursor} (t : Token) (g : Group) (all : List Form)
    → IsToken c t d → t.kind ≡ Close g → Fresh (f ∷ fs) forms → Rest (f ∷ fs) forms c all → Closed f fs forms d g all
unfolding Rest Fresh
close_out f fs forms t g all tok kind fresh r = close_here f fs forms r.0 r.2 t g all tok kind fresh.0 r.3 r.4 r.5

close_in : (f : Frame) (fs : List Frame) (forms : List Form) {c d : Cursor} (t : Token) (all : List Form)
    → IsToken c t d → t.kind ≡ Close f.opened.group → Rest fs (f.before ++ group_form f.opened forms ∷ []) d all → Rest (f ∷ fs) forms c all
unfolding Rest Ends
close_in f fs forms {c} {d} t all tok kind r =
    let e : forms ≡ forms ++ [] = sym (append-nil forms) in
    ([], c, d, AreForms.none, inr (not_at f.opened.group (no_close_at tok kind), t, tok, kind), subst (λ x. Rest fs (f.before ++ group_form f.opened x ∷ []) d all) e r)

-- an @ whose form is complete
sign_in : (f : Frame) (fs : List Frame) (form : Form) (c : Cursor) (all : List Form) → is_at f.opened.group ≡ true
    → Rest fs (f.before ++ group_form f.opened (form ∷ []) ∷ []) c all → Rest (f ∷ fs) (form ∷ []) c all
unfolding Rest Ends
sign_in f fs form c all at r = ([], c, c, AreForms.none, inl (at, refl, refl), r)

sign_here : (f : Frame) (fs : List Frame) (form : Form) (more : List Form) (e : Cursor) {c j : Cursor} (all : List Form) → is_at f.opened.group ≡ true
    → AreForms (length (f ∷ fs)) c more j → Ends f.opened.group (form ∷ more) j e
    → Rest fs (f.before ++ group_form f.opened (form ∷ more) ∷ []) e all → Rest fs (f.before ++ group_form f.opened (form ∷ []) ∷ []) c all
unfolding Ends
sign_here f fs form more e all at a (inr b) r = absurd (let x = sym at ∙ b.0 in cc)
sign_here f fs form [] e all at AreForms.none (inl a) r = subst (λ x. Rest fs (f.before ++ group_form f.opened (form ∷ []) ∷ []) x all) (sym a.1) r
sign_here f fs form (p ∷ ps) e all at is (inl a) r = absurd (omega (arith, a.2))

sign_out : (f : Frame) (fs : List Frame) (form : Form) (c : Cursor) (all : List Form) → is_at f.opened.group ≡ true
    → Rest (f ∷ fs) (form ∷ []) c all → Rest fs (f.before ++ group_form f.opened (form ∷ []) ∷ []) c all
unfolding Rest
sign_out f fs form c all at r = sign_here f fs form r.0 r.2 all at r.3 r.4 r.5

-- behind a complete form
pub record Settled (frames : List Frame) (forms : List Form) (n : Nest) : Type 0 where
  pub fresh : Fresh n.frames n.forms
  pub opens : without_ats (opens_of frames) ≡ opens_of n.frames
  pub rest_in : (c : Cursor) (all : List Form) → Rest n.frames n.forms c all → Rest frames forms c all
  pub rest_out : (c : Cursor) (all : List Form) → Rest frames forms c all → Rest n.frames n.forms c all

not_fresh : (g : Group) (forms : List Form) → is_at g ≡ false → is_at g ≡ true → forms ≡ []
not_fresh g forms a b = absurd (let x = sym a ∙ b in cc)

-- where no @ is innermost nothing more is complete, and else the @ is
module _ (f : Frame) (fs : List Frame) (before : List Form) (form : Form) (fresh : Fresh (f ∷ fs) before) where
  stays : is_at f.opened.group ≡ false → Settled (f ∷ fs) (before ++ form ∷ []) (nest_of (f ∷ fs) (before ++ form ∷ []))
  unfolding Fresh
  stays e = record {
    fresh = (not_fresh f.opened.group (before ++ form ∷ []) e, fresh.1);
    opens = rw e refl;
    rest_in = λ c all r. r;
    rest_out = λ c all r. r;
  }

  goes : (n : Nest) → is_at f.opened.group ≡ true → Settled fs (f.before ++ group_form f.opened (before ++ form ∷ []) ∷ []) n → Settled (f ∷ fs) (before ++ form ∷ []) n
  unfolding Fresh
  goes n e s =
      let none : before ≡ [] = fresh.0 e in
      let one : form ∷ [] ≡ before ++ form ∷ [] = ap (λ x. x ++ form ∷ []) (sym none) in
      record {
        fresh = s.fresh;
        opens = rw e s.opens;
        rest_in = λ c all r. subst (λ x. Rest fs (f.before ++ group_form f.opened x ∷ []) c all → Rest (f ∷ fs) x c all) one (sign_in f fs form c all e) (s.rest_in c all r);
        rest_out = λ c all r. s.rest_out c all (subst (λ x. Rest (f ∷ fs) x c all → Rest fs (f.before ++ group_form f.opened x ∷ []) c all) one (sign_out f fs form c all e) r);
      }

  settles : (n : Nest) (b : Bool) → is_at f.opened.group ≡ b → Settled fs (f.before ++ group_form f.opened (before ++ form ∷ []) ∷ []) n
      → Settled (f ∷ fs) (before ++ form ∷ []) (cond (is_at f.opened.group) n (nest_of (f ∷ fs) (before ++ form ∷ [])))
  settles n true e s = rw e (goes n e s)
  settles n false e s = rw e (stays e)

pub Settled-of : (frames : List Frame) (before : List Form) (form : Form) → Fresh frames before → Settled frames (before ++ form ∷ []) (settled frames (before ++ form ∷ []))
unfolding Fresh
Settled-of [] before form fresh = record { fresh = tt; opens = refl; rest_in = λ c all r. r; rest_out = λ c all r. r }
Settled-of (f ∷ fs) before form fresh =
    settles f fs before form fresh (settled fs (f.before ++ group_form f.opened (before ++ form ∷ []) ∷ [])) (is_at f.opened.group) refl
    (Settled-of fs f.before (group_form f.opened (before ++ form ∷ [])) fresh.1)

-- the tokens so far lead to a cursor, and what follows there completes what is open to what the whole spells
pub record SoFar (whole : Cursor) (n : Nest) (c : Cursor) : Type 0 where
  pub leaves : Leaves whole (opens_of n.frames) c
  pub fresh : Fresh n.frames n.forms
  pub spells : (all : List Form) → Rest n.frames n.forms c all → Spells whole all
  pub only : (all : List Form) → Spells whole all → Rest n.frames n.forms c all

pub SoFar-begin : (whole : Cursor) → SoFar whole (nest_of [] []) whole
unfolding Rest Fresh
SoFar-begin whole = record {
  leaves = Leaves.nothing;
  fresh = tt;
  spells = λ all r. subst (λ x. Spells whole x) (sym r.2) r.1;
  only = λ all s. (all, s, refl);
}

pub take_open : {whole c d : Cursor} (frames : List Frame) (forms : List Form) (t : Token) (g : Group) → SoFar whole (nest_of frames forms) c → IsToken c t d → t.kind ≡ Open g
    → length frames < nest_limit → SoFar whole (nest_of (frame_of (opened_of t.at g) forms ∷ frames) []) d
unfolding Fresh
take_open frames forms t g s tok kind below = record {
  leaves = Leaves.opening t g s.leaves tok kind (rw length-map below);
  fresh = (λ e. refl, s.fresh);
  spells = λ all r. s.spells all (open_in frames forms t g all tok kind below r);
  only = λ all h. open_out frames forms t g all tok kind s.fresh (s.only all h);
}

pub take_atom : {whole c d : Cursor} (frames : List Frame) (forms : List Form) (t : Token) (a : Atom) → SoFar whole (nest_of frames forms) c → IsToken c t d → t.kind ≡ AtomKind a
    → SoFar whole (settled frames (forms ++ form_at t.at (atom_kind a) ∷ [])) d
take_atom {whole} {c} {d} frames forms t a s tok kind =
    let n = Settled-of frames forms (form_at t.at (atom_kind a)) s.fresh in
    record {
      leaves = subst (λ x. Leaves whole x d) n.opens (Leaves.atom t a s.leaves tok kind);
      fresh = n.fresh;
      spells = λ all r. s.spells all (atom_in frames forms t a all tok kind (n.rest_in d all r));
      only = λ all h. n.rest_out d all (atom_out frames forms t a all tok kind s.fresh (s.only all h));
    }

pub take_close : {whole c d : Cursor} (f : Frame) (fs : List Frame) (forms : List Form) (t : Token) (g : Group) → SoFar whole (nest_of (f ∷ fs) forms) c → IsToken c t d → t.kind ≡ Close g
    → f.opened.group ≡ g → SoFar whole (settled fs (f.before ++ group_form f.opened forms ∷ [])) d
unfolding Fresh
take_close {whole} {c} {d} f fs forms t g s tok kind same =
    let n = Settled-of fs f.before (group_form f.opened forms) s.fresh.1 in
    let also : t.kind ≡ Close f.opened.group = kind ∙ ap Close (sym same) in
    record {
      leaves = subst (λ x. Leaves whole x d) n.opens (Leaves.closing t f.opened s.leaves tok also);
      fresh = n.fresh;
      spells = λ all r. s.spells all (close_in f fs forms t all tok also (n.rest_in d all r));
      only = λ all h. n.rest_out d all ((close_out f fs forms t g all tok kind s.fresh (s.only all h)).rest);
    }

take_kind : (kind : TokenKind) {whole c d : Cursor} (frames : List Frame) (forms : List Form) (new : Nest) (t : Token) → SoFar whole (nest_of frames forms) c → IsToken c t d
    → t.kind ≡ kind → Moves (nest_of frames forms) t.at kind new → SoFar whole new d
take_kind (Open g) {whole} {d} frames forms new t s tok is m = subst (λ x. SoFar whole x d) (sym m.1) (take_open frames forms t g s tok is m.0)
take_kind (AtomKind a) {whole} {d} frames forms new t s tok is m = subst (λ x. SoFar whole x d) (sym m) (take_atom frames forms t a s tok is)
take_kind (Close g) {whole} {d} [] forms new t s tok is m = absurd m.0
take_kind (Close g) {whole} {d} (f ∷ fs) forms new t s tok is m = subst (λ x. SoFar whole x d) (sym m.1) (take_close f fs forms t g s tok is m.0)

pub SoFar-take : (whole c d : Cursor) (old new : Nest) (t : Token) → SoFar whole old c → IsToken c t d → Moves old t.at t.kind new → SoFar whole new d
SoFar-take whole c d old new t s tok m = take_kind t.kind old.frames old.forms new t s tok refl m

-- why a token is refused
other_opens : (frames : List Frame) (g : Group) → (IsInnermost g frames → ⊥) → IsOther (opens_of frames) g
other_opens [] g n = tt
other_opens (f ∷ fs) g n = n

stops_kind : (kind : TokenKind) {c d : Cursor} (frames : List Frame) (forms : List Form) (t : Token) (why : ReadKind) (at : Spot) → IsToken c t d → t.kind ≡ kind
    → Blocks (nest_of frames forms) t.at kind why at → Stops c (opens_of frames) why at
stops_kind (Open g) frames forms t why at tok is b =
    let full : nest_limit ≤ length (opens_of frames) = rw (length-map frames (λ (f : Frame). f.opened)) b.2 in
    rw (b.0, b.1) (Stops.too_nested t g tok is full)
stops_kind (Close g) frames forms t why at tok is b = rw (b.0, b.1) (Stops.unmatched t g tok is (other_opens frames g b.2))
stops_kind (AtomKind a) frames forms t why at tok is b = absurd b

pub stops_of : (c d : Cursor) (n : Nest) (t : Token) (why : ReadKind) (at : Spot) → IsToken c t d → Blocks n t.at t.kind why at → Stops c (opens_of n.frames) why at
stops_of c d n t why at tok b = stops_kind t.kind n.frames n.forms t why at tok refl b

-- at the end the forms so far are all
pub SoFar-end : (whole c : Cursor) (forms : List Form) → SoFar whole (nest_of [] forms) c → IsEnd c → Spells whole forms
unfolding Rest
SoFar-end whole c forms s e = s.spells forms ([], Spells-none e, sym (append-nil forms))

none_left : {k : ℕ} {c d : Cursor} (more : List Form) → IsEnd c → AreForms k c more d → more ≡ []
none_left [] e AreForms.none = refl
none_left (f ∷ fs) e (AreForms.more is rest) = absurd (no_form_at_end e is) where
  no_form_at_end : {k : ℕ} {c d : Cursor} {form : Form} → IsEnd c → IsForm k c form d → ⊥
  no_form_at_end e (IsForm.atom u b other also is) = end_no_token e other
  no_form_at_end e (IsForm.bracket u v h parts below n other also fs close k is) = end_no_token e other
  no_form_at_end e (IsForm.at_sign u part below other also p is) = end_no_token e other

pub SoFar-all : (whole c : Cursor) (forms : List Form) → SoFar whole (nest_of [] forms) c → IsEnd c → (all : List Form) → Spells whole all → forms ≡ all
unfolding Rest
SoFar-all whole c forms s e all h =
    let r = s.only all h in
    let nothing = none_left r.0 e r.1.forms_to in
    sym (append-nil forms) ∙ ap (λ x. forms ++ x) (sym nothing) ∙ sym r.2

-- bytes that are no text
pub text_fails : {A : Type 0} (bytes : List ℕ) (r : Result A ReadNo) → length bytes ≤ source_limit
    → IfErr r (λ error. ¬ IsUtf8 bytes × (error ≡ Refused BadByte (after start (take (utf8_valid_len bytes) bytes)))) → IfErr r (RefusedAs (IsRefused bytes))
text_fails bytes (Ok x) within h = tt
text_fails bytes (Err error) within h = rw h.1 (IsRefused.no_text within h.0)

-- what becomes of the steps of a reader
module _ (bytes : List ℕ) (c : Cursor) (within : length bytes ≤ source_limit) (text : IsUtf8 bytes) where
  refused_at : (n : Nest) (kind : ReadKind) (at : Spot) → SoFar (source bytes) n c → Stops c (opens_of n.frames) kind at → IsRefused bytes kind at
  refused_at n kind at s stops = IsRefused.token (opens_of n.frames) c within text s.leaves stops

  pub next_fails : (n : Nest) (d : Cursor) (r : Result (Option Token) ReadNo) → SoFar (source bytes) n c → IsNext c r d → IfErr r (RefusedAs (IsRefused bytes))
  next_fails n d (Ok None) s h = tt
  next_fails n d (Ok (Some t)) s h = tt
  next_fails n d (Err Memory) s h = tt
  next_fails n d (Err (Refused kind at)) s h = refused_at n kind at s (Stops.no_token h)

  pub take_fails : {A : Type 0} (n : Nest) (d : Cursor) (t : Token) (r : Result A ReadNo) → SoFar (source bytes) n c → IsToken c t d
      → IfErr r (RefusedAs (Blocks n t.at t.kind)) → IfErr r (RefusedAs (IsRefused bytes))
  take_fails n d t (Ok x) s tok h = tt
  take_fails n d t (Err Memory) s tok h = tt
  take_fails n d t (Err (Refused kind at)) s tok h = refused_at n kind at s (stops_of c d n t kind at tok h)

  pub finish_fails : (frames : List Frame) (forms : List Form) (r : Result (List Form) ReadNo) → SoFar (source bytes) (nest_of frames forms) c → IsEnd c
      → Finishes frames forms r → IfErr r (RefusedAs (IsRefused bytes))
  finish_fails [] forms (Ok found) s e h = tt
  finish_fails (f ∷ fs) forms (Ok found) s e h = tt
  finish_fails [] forms (Err error) s e h = absurd h
  finish_fails (f ∷ fs) forms (Err error) s e h = rw h (refused_at (nest_of (f ∷ fs) forms) Unclosed f.opened.at s (Stops.unclosed f.opened e))

pub finish_found : (whole c : Cursor) (frames : List Frame) (forms : List Form) (r : Result (List Form) ReadNo) → SoFar whole (nest_of frames forms) c → IsEnd c
    → Finishes frames forms r → IfOk r (Spells whole)
finish_found whole c [] forms (Ok found) s e h = subst (λ x. Spells whole x) (sym h) (SoFar-end whole c forms s e)
finish_found whole c (f ∷ fs) forms (Ok found) s e h = absurd h
finish_found whole c [] forms (Err error) s e h = tt
finish_found whole c (f ∷ fs) forms (Err error) s e h = tt

pub finish_only : (whole c : Cursor) (frames : List Frame) (forms : List Form) (r : Result (List Form) ReadNo) → SoFar whole (nest_of frames forms) c → IsEnd c
    → Finishes frames forms r → (all : List Form) → Spells whole all → IfOk r (λ found. found ≡ all)
finish_only whole c [] forms (Ok found) s e h all a = h ∙ SoFar-all whole c forms s e all a
finish_only whole c (f ∷ fs) forms (Ok found) s e h all a = absurd h
finish_only whole c [] forms (Err error) s e h all a = tt
finish_only whole c (f ∷ fs) forms (Err error) s e h all a = tt
