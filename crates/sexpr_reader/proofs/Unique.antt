-- Bytes spell one list of forms.
use Rattle.std.proofs.Common.{◌≡◌, ◌⊎◌, inl, inr, ℕ, suc, List, [], ◌∷◌, refl, sym, ◌∙◌, ap, subst}
use Rattle.sexpr_reader.specs.declared.form.Form.{Form}
use Rattle.sexpr_reader.specs.declared.group.Group.{Group}
use Rattle.sexpr_reader.specs.declared.group.Group.TheVariants.{At}
use Rattle.sexpr_reader.specs.declared.token.Token.{Token}
use Rattle.sexpr_reader.specs.declared.token.TokenKind.{TokenKind}
use Rattle.sexpr_reader.specs.declared.token.TokenKind.TheVariants.{Open, Close, Atom as AtomKind}
use Rattle.sexpr_reader.specs.Cursor.{Cursor}
use Rattle.sexpr_reader.specs.Forms.{form_at, group_kind, atom_kind, IsForm, AreForms}
use Rattle.sexpr_reader.specs.Grammar.{IsSource}
use Rattle.sexpr_reader.specs.Tokens.{IsToken, IsEnd}
use Rattle.sexpr_reader.proofs.Same.{IsToken-same, end_no_token}
use Rattle.sexpr_reader.proofs.Sources.{no_form}
use Rattle.sexpr_reader.proofs.Never.{form_token}

record SameForm (f g : Form) (d e : Cursor) : Type 0 where
  forms : f ≡ g
  ends : d ≡ e

record SameForms (fs gs : List Form) (d e : Cursor) : Type 0 where
  forms : fs ≡ gs
  ends : d ≡ e

-- a closing bracket, or the end
record Closer (c : Cursor) : Type 0 where
  token : Token
  behind : Cursor
  group : Group
  is : IsToken c token behind
  kind : token.kind ≡ Close group

stop_no_form : {k : ℕ} {c d : Cursor} {form : Form} → IsEnd c ⊎ Closer c → IsForm k c form d → ⊥
stop_no_form (inl e) is = let t = form_token is in end_no_token e t.2
stop_no_form (inr b) is = no_form b.token b.group b.is b.kind is

pub kinds_of : {c d e : Cursor} {t u : Token} {k l : TokenKind} → IsToken c t d → t.kind ≡ k → IsToken c u e → u.kind ≡ l → k ≡ l
kinds_of a p b q = sym p ∙ ap (λ x. x.kind) ((IsToken-same a b).tokens) ∙ q

mutual
  form_same : {k : ℕ} {c d e : Cursor} {f g : Form} → IsForm k c f d → IsForm k c g e → SameForm f g d e
  form_same (IsForm.atom t a tok kind is) (IsForm.atom u b other also it) =
      let s = IsToken-same tok other in
      let x : AtomKind a ≡ AtomKind b = kinds_of tok kind other also in
      let same : a ≡ b = cc in
      record { forms = is ∙ ap (λ y. form_at y.at (atom_kind a)) s.tokens ∙ ap (λ y. form_at u.at (atom_kind y)) same ∙ sym it; ends = s.ends }
  form_same (IsForm.atom t a tok kind is) (IsForm.bracket u v h parts below n other also fs close shut it) =
      absurd (let x : AtomKind a ≡ Open h = kinds_of tok kind other also in cc)
  form_same (IsForm.atom t a tok kind is) (IsForm.at_sign u part below other also p it) =
      absurd (let x : AtomKind a ≡ Open At = kinds_of tok kind other also in cc)
  form_same (IsForm.bracket u v h parts below n other also fs close shut it) (IsForm.atom t a tok kind is) =
      absurd (let x : AtomKind a ≡ Open h = kinds_of tok kind other also in cc)
  form_same (IsForm.at_sign u part below other also p it) (IsForm.atom t a tok kind is) =
      absurd (let x : AtomKind a ≡ Open At = kinds_of tok kind other also in cc)
  form_same (IsForm.bracket t v g parts below n tok kind fs close shut is) (IsForm.at_sign u part under other also p it) =
      absurd (let x : Open g ≡ Open At = kinds_of tok kind other also in n (cc))
  form_same (IsForm.at_sign u part under other also p it) (IsForm.bracket t v g parts below n tok kind fs close shut is) =
      absurd (let x : Open g ≡ Open At = kinds_of tok kind other also in n (cc))
  form_same {k} {e} (IsForm.at_sign {i} t part below tok kind p is) (IsForm.at_sign u one under other also q it) =
      let s = IsToken-same tok other in
      let inner = form_same p (subst (λ y. IsForm (suc k) y one e) (sym s.ends) q) in
      record {
        forms = is ∙ ap (λ y. form_at y.at (group_kind At (part ∷ []))) s.tokens ∙ ap (λ y. form_at u.at (group_kind At (y ∷ []))) inner.forms ∙ sym it;
        ends = inner.ends;
      }
  form_same {k} {d} {e} (IsForm.bracket {i} {j} t v g parts below n tok kind fs close shut is) (IsForm.bracket {j = l} u w h others under m other also gs closes shuts it) =
      let s = IsToken-same tok other in
      let x : Open g ≡ Open h = kinds_of tok kind other also in
      let groups : g ≡ h = cc in
      let inside : AreForms (suc k) i others l = subst (λ y. AreForms (suc k) y others l) (sym s.ends) gs in
      let inner = forms_same fs (inr (record { token = v; behind = d; group = g; is = close; kind = shut })) inside (inr (record { token = w; behind = e; group = h; is = closes; kind = shuts })) in
      let last = IsToken-same close (subst (λ y. IsToken y w e) (sym inner.ends) closes) in
      record {
        forms = is ∙ ap (λ y. form_at y.at (group_kind g parts)) s.tokens ∙ ap (λ y. form_at u.at (group_kind y parts)) groups ∙ ap (λ y. form_at u.at (group_kind h y)) inner.forms ∙ sym it;
        ends = last.ends;
      }

  forms_same : {k : ℕ} {c d e : Cursor} {fs gs : List Form} → AreForms k c fs d → IsEnd d ⊎ Closer d → AreForms k c gs e → IsEnd e ⊎ Closer e → SameForms fs gs d e
  forms_same AreForms.none a AreForms.none b = record { forms = refl; ends = refl }
  forms_same AreForms.none a (AreForms.more is rest) b = absurd (stop_no_form a is)
  forms_same (AreForms.more is rest) a AreForms.none b = absurd (stop_no_form b is)
  forms_same {k} {e} (AreForms.more {f} {fs} is rest) a (AreForms.more {f = g} {fs = gs} it others) b =
      let one = form_same is it in
      let tail = forms_same rest a (subst (λ y. AreForms k y gs e) (sym one.ends) others) b in
      record { forms = ap (λ y. y ∷ fs) one.forms ∙ ap (λ ys. g ∷ ys) tail.forms; ends = tail.ends }

pub one_spelling : (bytes : List ℕ) (forms others : List Form) → IsSource bytes forms → IsSource bytes others → forms ≡ others
one_spelling bytes forms others a b = (forms_same a.spelled.forms_to (inl a.spelled.ends) b.spelled.forms_to (inl b.spelled.ends)).forms
