-- The spelling of the forms of a source is a source of the same forms, places aside.
use Rattle.std.proofs.Common.{◌≡◌, ◌≤◌, ℕ, Bool, true, false, List, [], ◌∷◌, ◌++◌, length, map, subst, arith}
use Rattle.std.specs.Prelude.{codes}
use Rattle.std.specs.Str.{IsUtf8}
use Rattle.std.proofs.lemmas.Str.{IsUtf8-nil, IsUtf8-append}
use Rattle.value_core.specs.Texts.{joined}
use Rattle.value_core.proofs.Joined.{joined-left_at, left_at}
use Rattle.sexpr_reader.specs.declared.form.Form.{Form}
use Rattle.sexpr_reader.specs.declared.group.Group.{Group}
use Rattle.sexpr_reader.specs.declared.group.Group.TheVariants.{List as ListGroup, Vector, Map, At}
use Rattle.sexpr_reader.specs.Cursor.{Cursor, start}
use Rattle.sexpr_reader.specs.Forms.{group_kind, IsForm, AreForms}
use Rattle.sexpr_reader.specs.Grammar.{IsSource}
use Rattle.sexpr_reader.specs.Limits.{source_limit}
use Rattle.sexpr_reader.specs.Places.{without_places}
use Rattle.sexpr_reader.specs.Spelling.{grouped, kind_text, form_text, spelling}
use Rattle.sexpr_reader.proofs.FormFolds.{kind_text-List, kind_text-Vector, kind_text-Map, kind_text-At, form_text-at}
use Rattle.sexpr_reader.proofs.FormTexts.{lines_again}
use Rattle.sexpr_reader.proofs.Texts.{HasText, ascii_then, token_takes}

abbrev pub AreTexts : List Form → Type 0
AreTexts [] = Unit {0}
AreTexts (f ∷ fs) = IsUtf8 (form_text f) × AreTexts fs

left_text : (is_first : Bool) (forms : List Form) → AreTexts forms → IsUtf8 (left_at (codes " ") is_first (map form_text forms))
left_text is_first [] h = IsUtf8-nil
left_text true (f ∷ fs) h = IsUtf8-append (form_text f) (left_at (codes " ") false (map form_text fs)) h.0 (left_text false fs h.1)
left_text false (f ∷ fs) h =
    ascii_then 32 (form_text f ++ left_at (codes " ") false (map form_text fs)) (omega arith) (IsUtf8-append (form_text f) (left_at (codes " ") false (map form_text fs)) h.0 (left_text false fs h.1))

joined_text : (parts : List Form) → AreTexts parts → IsUtf8 (joined (codes " ") (map form_text parts))
joined_text parts h = rw (joined-left_at (codes " ") (map form_text parts)) (left_text true parts h)

bracket_text : (opens closes : ℕ) (parts : List Form) → opens ≤ 127 → closes ≤ 127 → AreTexts parts → IsUtf8 (grouped (opens ∷ []) (closes ∷ []) (map form_text parts))
bracket_text opens closes parts low small h =
    let body = joined (codes " ") (map form_text parts) in
    ascii_then opens (body ++ closes ∷ []) (omega arith) (IsUtf8-append body (closes ∷ []) (joined_text parts h) (ascii_then closes [] (omega arith) IsUtf8-nil))

pub group_text : (g : Group) (parts : List Form) → AreTexts parts → IsUtf8 (kind_text (group_kind g parts))
group_text ListGroup parts h = rw (kind_text-List parts) (bracket_text 40 41 parts (omega arith) (omega arith) h)
group_text Vector parts h = rw (kind_text-Vector parts) (bracket_text 91 93 parts (omega arith) (omega arith) h)
group_text Map parts h = rw (kind_text-Map parts) (bracket_text 123 125 parts (omega arith) (omega arith) h)
group_text At parts h =
    let body = joined (codes " ") (map form_text parts) in
    rw (kind_text-At parts) (ascii_then 64 (body ++ []) (omega arith) (IsUtf8-append body [] (joined_text parts h) IsUtf8-nil))

record Text (form : Form) (d : Cursor) : Type 0 where
  text : IsUtf8 (form_text form)
  rest : IsUtf8 d.rest

record Texts (forms : List Form) (d : Cursor) : Type 0 where
  texts : AreTexts forms
  rest : IsUtf8 d.rest

mutual
  form_texts : {k : ℕ} {c d : Cursor} {f : Form} → IsForm k c f d → IsUtf8 c.rest → Text f d
  form_texts (IsForm.atom t a tok kind is) u =
      let r = token_takes tok u in
      record { text = rw (is, form_text-at) (subst HasText kind r.text); rest = r.rest }
  form_texts (IsForm.bracket t v g parts below n tok kind fs close shut is) u =
      let inner = parts_texts fs (token_takes tok u).rest in
      record { text = rw (is, form_text-at) (group_text g parts inner.texts); rest = (token_takes close inner.rest).rest }
  form_texts (IsForm.at_sign t part below tok kind p is) u =
      let inner = form_texts p (token_takes tok u).rest in
      record { text = rw (is, form_text-at) (group_text At (part ∷ []) (inner.text, tt)); rest = inner.rest }

  parts_texts : {k : ℕ} {c d : Cursor} {fs : List Form} → AreForms k c fs d → IsUtf8 c.rest → Texts fs d
  parts_texts AreForms.none u = record { texts = tt; rest = u }
  parts_texts (AreForms.more is others) u =
      let r = form_texts is u in
      let q = parts_texts others r.rest in
      record { texts = (r.text, q.texts); rest = q.rest }

pub lines_text : (forms : List Form) → AreTexts forms → IsUtf8 (spelling forms)
lines_text [] h = IsUtf8-nil
lines_text (f ∷ fs) h =
    IsUtf8-append (form_text f ++ 10 ∷ []) (spelling fs) (IsUtf8-append (form_text f) (10 ∷ []) h.0 (ascii_then 10 [] (omega arith) IsUtf8-nil)) (lines_text fs h.1)

pub reads_again : (bytes : List ℕ) (forms : List Form) → IsSource bytes forms → length (spelling forms) ≤ source_limit
    → (again : List Form) × IsSource (spelling forms) again × (map without_places again ≡ map without_places forms)
reads_again bytes forms s short =
    let lines = lines_again s.spelled.forms_to start in
    let texts = parts_texts s.spelled.forms_to s.text in
    (lines.again, record { within = short; text = lines_text forms texts.texts; spelled = lines.spells }, lines.same)
