-- The text of the forms of a source spells them again, places aside.
use Rattle.std.proofs.Common.{◌≡◌, ◌≢◌, ◌<◌, ℕ, suc, Bool, true, false, List, [], ◌∷◌, ◌++◌, map, refl, sym, ◌∙◌, ap, subst, arith, append_assoc, append-nil}
use Rattle.std.specs.Prelude.{None, codes}
use Rattle.std.proofs.lemmas.Bool.Decides.{nat_tests}
use Rattle.value_core.specs.Place.{Spot}
use Rattle.value_core.proofs.Joined.{joined-left_at, left_at}
use Rattle.sexpr_reader.specs.declared.form.Form.{Form}
use Rattle.sexpr_reader.specs.declared.group.Group.{Group}
use Rattle.sexpr_reader.specs.declared.group.Group.TheVariants.{List as ListGroup, Vector, Map, At}
use Rattle.sexpr_reader.specs.declared.lead.Lead.TheVariants as lead
use Rattle.sexpr_reader.specs.declared.token.Atom.{Atom}
use Rattle.sexpr_reader.specs.declared.token.Token.{Token}
use Rattle.sexpr_reader.specs.declared.token.TokenKind.{TokenKind}
use Rattle.sexpr_reader.specs.declared.token.TokenKind.TheVariants.{Open, Close, Atom as AtomKind}
use Rattle.sexpr_reader.specs.Cursor.{Cursor, start, next_spot}
use Rattle.sexpr_reader.specs.Forms.{form_at, group_kind, atom_kind, IsForm, AreForms, Spells}
use Rattle.sexpr_reader.specs.Gap.{Gap}
use Rattle.sexpr_reader.specs.Lead.{begins, lead_of, is_sign, is_white_space, is_word_byte}
use Rattle.sexpr_reader.specs.Limits.{nest_limit}
use Rattle.sexpr_reader.specs.Places.{without_places}
use Rattle.sexpr_reader.specs.Spelling.{grouped, kind_text, form_text, spelling}
use Rattle.sexpr_reader.specs.Steps.{gap_class}
use Rattle.sexpr_reader.specs.Tokens.{Begins, IsToken, IsEnd}
use Rattle.sexpr_reader.proofs.AtomTexts.{ReadsAs, atom_again}
use Rattle.sexpr_reader.proofs.FormFolds.{kind_text-List, kind_text-Vector, kind_text-Map, kind_text-At, form_text-at, without_places-atom, without_places-group}
use Rattle.sexpr_reader.proofs.Found.{cursor, byte_on}
use Rattle.sexpr_reader.proofs.Same.{no_gap}

-- what follows a gap follows more of it
gap_gap : {b c d : Cursor} → Gap b c → Gap c d → Gap b d
gap_gap Gap.nothing g = g
gap_gap (Gap.white_space t is run r) g = Gap.white_space t is run (gap_gap r g)
gap_gap (Gap.comment t is run r) g = Gap.comment t is run (gap_gap r g)

gap_token : {b c d : Cursor} {t : Token} → Gap b c → IsToken c t d → IsToken b t d
gap_token g t = record { begin = t.begin; gap = gap_gap g t.gap; at = t.at; is = t.is }

gap_form : {k : ℕ} {b c d : Cursor} {f : Form} → Gap b c → IsForm k c f d → IsForm k b f d
gap_form g (IsForm.atom t a tok kind is) = IsForm.atom t a (gap_token g tok) kind is
gap_form g (IsForm.bracket t u h parts below n tok kind fs close shut is) = IsForm.bracket t u h parts below n (gap_token g tok) kind fs close shut is
gap_form g (IsForm.at_sign t part below tok kind p is) = IsForm.at_sign t part below (gap_token g tok) kind p is

-- one byte of white space
white_sign : (b : ℕ) → is_white_space b ≡ true → is_sign b ≡ false
white_sign b h = grind (arith, nat_tests)

white_lead : (b : ℕ) (bs : List ℕ) → is_white_space b ≡ true → lead_of (b ∷ bs) ≡ lead.WhiteSpace
white_lead b bs h = rw (white_sign b h, h) refl

white_gap : (at : Spot) (b : ℕ) (bs : List ℕ) → is_white_space b ≡ true → begins is_white_space bs ≡ false → Gap (cursor at (b ∷ bs)) (cursor (next_spot at b) bs)
white_gap at b bs h ends =
    Gap.white_space (b ∷ []) (white_lead b bs h) (record { spans = record { each = rw h refl; over = byte_on at b bs }; ends = ends }) Gap.nothing

no_white : (bs : List ℕ) → gap_class (lead_of bs) ≡ None → begins is_white_space bs ≡ false
no_white [] h = refl
no_white (b ∷ bs) h = by (is_white_space b) refl where
  by : (t : Bool) → is_white_space b ≡ t → is_white_space b ≡ false
  by true e = absurd (let x = sym h ∙ ap gap_class (white_lead b bs e) in cc)
  by false e = e

-- a form's text, before others, spells a form that is the same, places aside
pub record Again (k : ℕ) (form : Form) (at : Spot) (rest : List ℕ) : Type 0 where
  pub again : Form
  pub behind : Spot
  pub is : IsForm k (cursor at (form_text form ++ rest)) again (cursor behind rest)
  pub same : without_places again ≡ without_places form
  pub first : begins is_white_space (form_text form ++ rest) ≡ false

here : {c d : Cursor} {kind : TokenKind} → Begins (lead_of c.rest) c kind d → IsToken c (record { at = c.at; kind = kind }) d
here {c} is = record { begin = c; gap = Gap.nothing; at = refl; is = is }

pub atom_form : (k : ℕ) (at spot : Spot) (a : Atom) (rest : List ℕ) → ReadsAs (cursor spot (kind_text (atom_kind a) ++ rest)) (AtomKind a) rest → Again k (form_at at (atom_kind a)) spot rest
atom_form k at spot a rest r =
    let text = form_text-at at (atom_kind a) in
    record {
      again = form_at spot (atom_kind a);
      behind = r.behind;
      is = rw text (IsForm.atom (record { at = spot; kind = AtomKind a }) a (here r.is) refl refl);
      same = without_places-atom spot a ∙ sym (without_places-atom at a);
      first = rw text (no_white (kind_text (atom_kind a) ++ rest) (no_gap r.is));
    }

-- brackets
pub record Bracket (g : Group) : Type 0 where
  pub opens : ℕ
  pub closes : ℕ
  pub text : (parts : List Form) → kind_text (group_kind g parts) ≡ grouped (opens ∷ []) (closes ∷ []) (map form_text parts)
  pub open_lead : (bs : List ℕ) → lead_of (opens ∷ bs) ≡ lead.Open g
  pub close_lead : (bs : List ℕ) → lead_of (closes ∷ bs) ≡ lead.Close g
  pub no_word : is_word_byte closes ≡ false

pub bracket_of : (g : Group) → g ≢ At → Bracket g
bracket_of ListGroup n = record { opens = 40; closes = 41; text = kind_text-List; open_lead = λ bs. refl; close_lead = λ bs. refl; no_word = refl }
bracket_of Vector n = record { opens = 91; closes = 93; text = kind_text-Vector; open_lead = λ bs. refl; close_lead = λ bs. refl; no_word = refl }
bracket_of Map n = record { opens = 123; closes = 125; text = kind_text-Map; open_lead = λ bs. refl; close_lead = λ bs. refl; no_word = refl }
bracket_of At n = absurd (n refl)

opens_as : (g : Group) (at : Spot) (b : ℕ) (rest : List ℕ) → lead_of (b ∷ rest) ≡ lead.Open g
    → Begins (lead_of (b ∷ rest)) (cursor at (b ∷ rest)) (Open g) (cursor (next_spot at b) rest)
opens_as g at b rest is = rw is (Begins.opening g (record { byte = b; over = byte_on at b rest }))

closes_as : (g : Group) (at : Spot) (b : ℕ) (rest : List ℕ) → lead_of (b ∷ rest) ≡ lead.Close g
    → Begins (lead_of (b ∷ rest)) (cursor at (b ∷ rest)) (Close g) (cursor (next_spot at b) rest)
closes_as g at b rest is = rw is (Begins.closing g (record { byte = b; over = byte_on at b rest }))

-- the parts of a form, with a space before each but the first
pub record AgainAll (k : ℕ) (is_first : Bool) (forms : List Form) (at : Spot) (rest : List ℕ) : Type 0 where
  pub again : List Form
  pub behind : Spot
  pub are : AreForms k (cursor at (left_at (codes " ") is_first (map form_text forms) ++ rest)) again (cursor behind rest)
  pub same : map without_places again ≡ map without_places forms

pub bracket_form : (k : ℕ) (spot : Spot) (g : Group) (parts : List Form) (b : Bracket g) → k < nest_limit → g ≢ At → (at : Spot) (rest : List ℕ)
    → AgainAll (suc k) true parts (next_spot at b.opens) (b.closes ∷ rest) → Again k (form_at spot (group_kind g parts)) at rest
bracket_form k spot g parts b below n at rest r =
    let inner = left_at (codes " ") true (map form_text parts) in
    let opening = opens_as g at b.opens (inner ++ b.closes ∷ rest) (b.open_lead (inner ++ b.closes ∷ rest)) in
    let closing = closes_as g r.behind b.closes rest (b.close_lead rest) in
    let text : form_text (form_at spot (group_kind g parts)) ++ rest ≡ b.opens ∷ (inner ++ b.closes ∷ rest) =
    ap (λ x. x ++ rest) (form_text-at spot (group_kind g parts) ∙ b.text parts) ∙ ap (λ x. b.opens ∷ ((x ++ b.closes ∷ []) ++ rest)) (joined-left_at (codes " ") (map form_text parts))
    ∙ ap (λ x. b.opens ∷ x) (append_assoc inner (b.closes ∷ []) rest) in
    record {
      again = form_at at (group_kind g r.again);
      behind = next_spot r.behind b.closes;
      is = rw text (IsForm.bracket (record { at = at; kind = Open g }) (record { at = r.behind; kind = Close g }) g r.again below n
          (here opening) refl r.are (here closing) refl refl);
      same = without_places-group at g r.again ∙ ap (λ x. form_at start (group_kind g x)) r.same ∙ sym (without_places-group spot g parts);
      first = rw text (no_white (b.opens ∷ (inner ++ b.closes ∷ rest)) (no_gap opening));
    }

pub sign_form : (k : ℕ) (spot : Spot) (part : Form) → k < nest_limit → (at : Spot) (rest : List ℕ) → Again (suc k) part (next_spot at 64) rest → Again k (form_at spot (group_kind At (part ∷ []))) at rest
sign_form k spot part below at rest r =
    let inner = form_text part in
    let opening = opens_as At at 64 (inner ++ rest) refl in
    let text : form_text (form_at spot (group_kind At (part ∷ []))) ++ rest ≡ 64 ∷ (inner ++ rest) =
    ap (λ x. x ++ rest) (form_text-at spot (group_kind At (part ∷ [])) ∙ kind_text-At (part ∷ [])) ∙ ap (λ x. 64 ∷ (x ++ rest)) (append-nil inner) in
    let parts : without_places r.again ∷ [] ≡ without_places part ∷ [] = ap (λ x. x ∷ []) r.same in
    record {
      again = form_at at (group_kind At (r.again ∷ []));
      behind = r.behind;
      is = rw text (IsForm.at_sign (record { at = at; kind = Open At }) r.again below (here opening) refl r.is refl);
      same = without_places-group at At (r.again ∷ []) ∙ ap (λ x. form_at start (group_kind At x)) parts ∙ sym (without_places-group spot At (part ∷ []));
      first = rw text refl;
    }

-- a space or what comes behind the parts ends a word
pub ends_word : (forms : List Form) (rest : List ℕ) → begins is_word_byte rest ≡ false → begins is_word_byte (left_at (codes " ") false (map form_text forms) ++ rest) ≡ false
ends_word [] rest ends = ends
ends_word (f ∷ fs) rest ends = refl

pub more_forms : {k : ℕ} (f : Form) (fs : List Form) (at : Spot) (rest : List ℕ) (r : Again k f at (left_at (codes " ") false (map form_text fs) ++ rest)) → AgainAll k false fs r.behind rest → AgainAll k true (f ∷ fs) at rest
more_forms f fs at rest r q =
    let tail = left_at (codes " ") false (map form_text fs) in
    let text : (form_text f ++ tail) ++ rest ≡ form_text f ++ (tail ++ rest) = append_assoc (form_text f) tail rest in
    record {
      again = r.again ∷ q.again;
      behind = q.behind;
      are = rw text (AreForms.more r.is q.are);
      same = ap (λ x. x ∷ map without_places q.again) r.same ∙ ap (λ x. without_places f ∷ x) q.same;
    }

pub spaced_forms : {k : ℕ} (f : Form) (fs : List Form) (at : Spot) (rest : List ℕ) (r : Again k f (next_spot at 32) (left_at (codes " ") false (map form_text fs) ++ rest)) → AgainAll k false fs r.behind rest → AgainAll k false (f ∷ fs) at rest
spaced_forms f fs at rest r q =
    let tail = left_at (codes " ") false (map form_text fs) in
    let text : (form_text f ++ tail) ++ rest ≡ form_text f ++ (tail ++ rest) = append_assoc (form_text f) tail rest in
    let gap = white_gap at 32 (form_text f ++ (tail ++ rest)) refl r.first in
    record {
      again = r.again ∷ q.again;
      behind = q.behind;
      are = rw text (AreForms.more (gap_form gap r.is) q.are);
      same = ap (λ x. x ∷ map without_places q.again) r.same ∙ ap (λ x. without_places f ∷ x) q.same;
    }

mutual
  form_again : {k : ℕ} {c d : Cursor} {f : Form} → IsForm k c f d → (at : Spot) (rest : List ℕ) → begins is_word_byte rest ≡ false → Again k f at rest
  form_again {k} (IsForm.atom t a tok kind is) at rest ends =
      subst (λ x. Again k x at rest) (sym is) (atom_form k t.at at a rest (atom_again a tok.is refl kind at rest ends))
  form_again {k} (IsForm.bracket t u g parts below n tok kind fs close shut is) at rest ends =
      let b = bracket_of g n in
      subst (λ x. Again k x at rest) (sym is) (bracket_form k t.at g parts b below n at rest (forms_again fs true (next_spot at b.opens) (b.closes ∷ rest) b.no_word))
  form_again {k} (IsForm.at_sign t part below tok kind p is) at rest ends =
      subst (λ x. Again k x at rest) (sym is) (sign_form k t.at part below at rest (form_again p (next_spot at 64) rest ends))

  forms_again : {k : ℕ} {c d : Cursor} {fs : List Form} → AreForms k c fs d → (is_first : Bool) (at : Spot) (rest : List ℕ) → begins is_word_byte rest ≡ false → AgainAll k is_first fs at rest
  forms_again AreForms.none is_first at rest ends = record { again = []; behind = at; are = AreForms.none; same = refl }
  forms_again (AreForms.more {f} {fs} is others) true at rest ends =
      let r = form_again is at (left_at (codes " ") false (map form_text fs) ++ rest) (ends_word fs rest ends) in
      more_forms f fs at rest r (forms_again others false r.behind rest ends)
  forms_again (AreForms.more {f} {fs} is others) false at rest ends =
      let r = form_again is (next_spot at 32) (left_at (codes " ") false (map form_text fs) ++ rest) (ends_word fs rest ends) in
      spaced_forms f fs at rest r (forms_again others false r.behind rest ends)

-- the lines of a spelling
pub record Lines (forms : List Form) (at : Spot) : Type 0 where
  pub again : List Form
  pub spells : Spells (cursor at (spelling forms)) again
  pub same : map without_places again ≡ map without_places forms
  pub first : begins is_white_space (spelling forms) ≡ false

gap_spells : {b c : Cursor} (forms : List Form) → Gap b c → Spells c forms → Spells b forms
gap_spells {b} {c} forms g s = by forms s.forms_to s.ends where
  by : (forms : List Form) {last : Cursor} → AreForms 0 c forms last → IsEnd last → Spells b forms
  by [] AreForms.none e = record { last = b; forms_to = AreForms.none; ends = record { last = e.last; gap = gap_gap g e.gap; ends = e.ends } }
  by (f ∷ fs) {last} (AreForms.more is rest) e = record { last = last; forms_to = AreForms.more (gap_form g is) rest; ends = e }

pub more_lines : (f : Form) (fs : List Form) (at : Spot) (r : Again 0 f at (10 ∷ spelling fs)) → Lines fs (next_spot r.behind 10) → Lines (f ∷ fs) at
more_lines f fs at r q =
    let text : spelling (f ∷ fs) ≡ form_text f ++ 10 ∷ spelling fs = append_assoc (form_text f) (10 ∷ []) (spelling fs) in
    let others = gap_spells q.again (white_gap r.behind 10 (spelling fs) refl q.first) q.spells in
    record {
      again = r.again ∷ q.again;
      spells = rw text (record { last = others.last; forms_to = AreForms.more r.is others.forms_to; ends = others.ends });
      same = ap (λ x. x ∷ map without_places q.again) r.same ∙ ap (λ x. without_places f ∷ x) q.same;
      first = rw text r.first;
    }

pub lines_again : {c d : Cursor} {fs : List Form} → AreForms 0 c fs d → (at : Spot) → Lines fs at
lines_again AreForms.none at = record { again = []; spells = record { last = cursor at []; forms_to = AreForms.none; ends = record { last = cursor at []; gap = Gap.nothing; ends = refl } }; same = refl; first = refl }
lines_again (AreForms.more {f} {fs} is others) at =
    let r = form_again is at (10 ∷ spelling fs) refl in more_lines f fs at r (lines_again others (next_spot r.behind 10))
