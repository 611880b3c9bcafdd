-- Forms by their shape, places aside: how they are written, and that they are read again.
use Rattle.std.proofs.Common.{◌≡◌, ◌<◌, ℕ, suc, ◌^◌, pos, Bool, true, false, ◌&&◌, List, [], ◌∷◌, ◌++◌, map, refl, sym, ap, subst, ◌∙◌, arith, append-nil}
use Rattle.std.specs.Prelude.{codes, nat_lt, FitsSigned}
use Rattle.std.specs.Fmt.{decimal}
use Rattle.std.specs.Int.{w64}
use Rattle.std.specs.List.{list_all}
use Rattle.std.specs.Str.{IsUtf8}
use Rattle.std.proofs.lemmas.Bool.{and_parts}
use Rattle.std.proofs.lemmas.Bool.Decides.{nat_tests}
use Rattle.std.proofs.lemmas.Fmt.{IsAscii-decimal}
use Rattle.std.proofs.lemmas.Str.{IsUtf8-nil, IsUtf8-from_ascii}
use Rattle.value_core.specs.Place.{Spot}
use Rattle.value_core.specs.Texts.{joined, quoted}
use Rattle.value_core.proofs.Joined.{left_at}
use Rattle.sexpr_reader.specs.declared.form.Form.{Form}
use Rattle.sexpr_reader.specs.declared.form.FormKind.TheVariants as form
use Rattle.sexpr_reader.specs.declared.group.Group.TheVariants.{List as ListGroup, Vector, At}
use Rattle.sexpr_reader.specs.declared.lead.Lead.{Lead}
use Rattle.sexpr_reader.specs.declared.lead.Lead.TheVariants.{Other}
use Rattle.sexpr_reader.specs.declared.token.Atom.TheVariants as single
use Rattle.sexpr_reader.specs.declared.token.TokenKind.TheVariants.{Atom as AtomKind}
use Rattle.sexpr_reader.specs.Bytes.{is_name_byte, is_later_byte}
use Rattle.sexpr_reader.specs.Cursor.{start, next_spot, after}
use Rattle.sexpr_reader.specs.Forms.{form_at, atom_kind, AreForms}
use Rattle.sexpr_reader.specs.Lead.{begins, lead_of, is_word_byte}
use Rattle.sexpr_reader.specs.Limits.{nest_limit}
use Rattle.sexpr_reader.specs.Names.{IsName}
use Rattle.sexpr_reader.specs.Spelling.{form_text}
use Rattle.sexpr_reader.specs.Tokens.{named}
use Rattle.sexpr_reader.proofs.AtomTexts.{ReadsAs, Reading, named_text, quoted_again, int_again, symbol_again, text_on}
use Rattle.sexpr_reader.proofs.FormFolds.{kind_text-Str, kind_text-Int, kind_text-List, kind_text-Vector, kind_text-At, form_text-at}
use Rattle.sexpr_reader.proofs.FormTexts.{Again, AgainAll, atom_form, bracket_form, bracket_of, ends_word, more_forms, sign_form, spaced_forms}
use Rattle.sexpr_reader.proofs.Found.{cursor}
use Rattle.sexpr_reader.proofs.SpelledTexts.{AreTexts, group_text}
use Rattle.sexpr_reader.proofs.Texts.{ascii_then}

-- the words that are names, and begin neither a number nor anything else
abbrev pub is_other : Lead → Bool
is_other Other = true
is_other _ = false

abbrev pub is_symbol : List ℕ → Bool
is_symbol word = (begins is_name_byte word && list_all is_later_byte word) && (list_all is_word_byte word && is_other (lead_of word))

abbrev pub is_ascii : List ℕ → Bool
is_ascii text = list_all (λ b. nat_lt b 128) text

-- a word, an integer, a string, or some of them in brackets or behind an @
mutual
  pub data Tree : Type 0 where
    word : (name : List ℕ) → is_symbol name ≡ true → Tree
    number : (n : ℕ) → n < 2 ^ 63 → Tree
    string : (text : List ℕ) → is_ascii (quoted text) ≡ true → Tree
    list : Trees → Tree
    vector : Trees → Tree
    at_sign : Tree → Tree

  pub data Trees : Type 0 where
    none : Trees
    more : Tree → Trees → Trees

-- the form, as if it and its parts began at the start of a source
abbrev mutual
  pub form_of : Tree → Form
  form_of (Tree.word name is) = form_at start (atom_kind (named name))
  form_of (Tree.number n small) = form_at start (form.Int (pos n))
  form_of (Tree.string text is) = form_at start (form.Str text)
  form_of (Tree.list ts) = form_at start (form.List (forms_of ts))
  form_of (Tree.vector ts) = form_at start (form.Vector (forms_of ts))
  form_of (Tree.at_sign t) = form_at start (form.At (form_of t ∷ []))

  pub forms_of : Trees → List Form
  forms_of Trees.none = []
  forms_of (Trees.more t ts) = form_of t ∷ forms_of ts

-- its text
abbrev mutual
  pub text_of : Tree → List ℕ
  text_of (Tree.word name is) = name
  text_of (Tree.number n small) = decimal n
  text_of (Tree.string text is) = quoted text
  text_of (Tree.list ts) = codes "(" ++ joined (codes " ") (texts_of ts) ++ codes ")"
  text_of (Tree.vector ts) = codes "[" ++ joined (codes " ") (texts_of ts) ++ codes "]"
  text_of (Tree.at_sign t) = codes "@" ++ text_of t

  pub texts_of : Trees → List (List ℕ)
  texts_of Trees.none = []
  texts_of (Trees.more t ts) = text_of t ∷ texts_of ts

-- it nests no deeper than a source may, where so many brackets are open round it
abbrev mutual
  pub fits : ℕ → Tree → Bool
  fits k (Tree.word name is) = true
  fits k (Tree.number n small) = true
  fits k (Tree.string text is) = true
  fits k (Tree.list ts) = nat_lt k 256 && all_fit (suc k) ts
  fits k (Tree.vector ts) = nat_lt k 256 && all_fit (suc k) ts
  fits k (Tree.at_sign t) = nat_lt k 256 && fits (suc k) t

  pub all_fit : ℕ → Trees → Bool
  all_fit k Trees.none = true
  all_fit k (Trees.more t ts) = fits k t && all_fit k ts

-- what it is written as is its form's text
mutual
  pub text_is : (t : Tree) → form_text (form_of t) ≡ text_of t
  text_is (Tree.word name is) = form_text-at start (atom_kind (named name)) ∙ named_text name
  text_is (Tree.number n small) = form_text-at start (form.Int (pos n)) ∙ kind_text-Int (pos n)
  text_is (Tree.string text is) = form_text-at start (form.Str text) ∙ kind_text-Str text
  text_is (Tree.list ts) = form_text-at start (form.List (forms_of ts)) ∙ kind_text-List (forms_of ts) ∙ ap (λ x. codes "(" ++ joined (codes " ") x ++ codes ")") (texts_are ts)
  text_is (Tree.vector ts) = form_text-at start (form.Vector (forms_of ts)) ∙ kind_text-Vector (forms_of ts) ∙ ap (λ x. codes "[" ++ joined (codes " ") x ++ codes "]") (texts_are ts)
  text_is (Tree.at_sign t) =
      form_text-at start (form.At (form_of t ∷ [])) ∙ kind_text-At (form_of t ∷ []) ∙ ap (λ x. codes "@" ++ x) (append-nil (form_text (form_of t)) ∙ text_is t)

  pub texts_are : (ts : Trees) → map form_text (forms_of ts) ≡ texts_of ts
  texts_are Trees.none = refl
  texts_are (Trees.more t ts) = ap (λ x. x ∷ map form_text (forms_of ts)) (text_is t) ∙ ap (λ x. text_of t ∷ x) (texts_are ts)

-- a name is read as what it is
other_lead : (l : Lead) → is_other l ≡ true → l ≡ Other
other_lead Other e = refl
other_lead _ e = absurd (cc)

name_reads : (name : List ℕ) → is_symbol name ≡ true → Reading name (AtomKind (named name))
name_reads name is =
    let parts = and_parts (begins is_name_byte name && list_all is_later_byte name) (list_all is_word_byte name && is_other (lead_of name)) is in
    let front = and_parts (begins is_name_byte name) (list_all is_later_byte name) parts.0 in
    let back = and_parts (list_all is_word_byte name) (is_other (lead_of name)) parts.1 in
    let whole : name ++ [] ≡ name = append-nil name in
    let is_name : IsName (cursor start (name ++ [])) name (cursor (after start name) []) = record {
      first = rw whole front.0;
      word = record { spans = record { each = back.0; over = text_on start name [] }; ends = refl };
      fits = front.1;
    } in
    symbol_again name is_name (rw whole (other_lead (lead_of name) back.1))

integer_fits : (n : ℕ) → n < 2 ^ 63 → FitsSigned w64 (pos n)
integer_fits n small = record { sfits = omega (arith, small) }

within : (k : ℕ) → nat_lt k 256 ≡ true → k < nest_limit
within k h = grind (arith, nat_tests)

not_at_list : ListGroup ≡ At → ⊥
not_at_list e = cc

not_at_vector : Vector ≡ At → ⊥
not_at_vector e = cc

-- each form is read again from its text
mutual
  pub reads : (k : ℕ) (t : Tree) → fits k t ≡ true → (at : Spot) (rest : List ℕ) → begins is_word_byte rest ≡ false → Again k (form_of t) at rest
  reads k (Tree.word name is) fit at rest ends =
      atom_form k start at (named name) rest (subst (λ x. ReadsAs (cursor at (x ++ rest)) (AtomKind (named name)) rest) (sym (named_text name)) (name_reads name is at rest ends))
  reads k (Tree.number n small) fit at rest ends =
      atom_form k start at (single.Int (pos n)) rest
      (subst (λ x. ReadsAs (cursor at (x ++ rest)) (AtomKind (single.Int (pos n))) rest) (sym (kind_text-Int (pos n))) (int_again (pos n) (integer_fits n small) at rest ends))
  reads k (Tree.string text is) fit at rest ends =
      atom_form k start at (single.Str text) rest
      (subst (λ x. ReadsAs (cursor at (x ++ rest)) (AtomKind (single.Str text)) rest) (sym (kind_text-Str text)) (quoted_again text at rest ends))
  reads k (Tree.list ts) fit at rest ends =
      let b = bracket_of ListGroup not_at_list in
      let both = and_parts (nat_lt k 256) (all_fit (suc k) ts) fit in
      bracket_form k start ListGroup (forms_of ts) b (within k both.0) not_at_list at rest
      (reads_all (suc k) ts true both.1 (next_spot at b.opens) (b.closes ∷ rest) b.no_word)
  reads k (Tree.vector ts) fit at rest ends =
      let b = bracket_of Vector not_at_vector in
      let both = and_parts (nat_lt k 256) (all_fit (suc k) ts) fit in
      bracket_form k start Vector (forms_of ts) b (within k both.0) not_at_vector at rest
      (reads_all (suc k) ts true both.1 (next_spot at b.opens) (b.closes ∷ rest) b.no_word)
  reads k (Tree.at_sign t) fit at rest ends =
      let both = and_parts (nat_lt k 256) (fits (suc k) t) fit in
      sign_form k start (form_of t) (within k both.0) at rest (reads (suc k) t both.1 (next_spot at 64) rest ends)

  reads_all : (k : ℕ) (ts : Trees) (is_first : Bool) → all_fit k ts ≡ true → (at : Spot) (rest : List ℕ) → begins is_word_byte rest ≡ false → AgainAll k is_first (forms_of ts) at rest
  reads_all k Trees.none is_first fit at rest ends = record { again = []; behind = at; are = AreForms.none; same = refl }
  reads_all k (Trees.more t ts) true fit at rest ends =
      let both = and_parts (fits k t) (all_fit k ts) fit in
      let r = reads k t both.0 at (left_at (codes " ") false (map form_text (forms_of ts)) ++ rest) (ends_word (forms_of ts) rest ends) in
      more_forms (form_of t) (forms_of ts) at rest r (reads_all k ts false both.1 r.behind rest ends)
  reads_all k (Trees.more t ts) false fit at rest ends =
      let both = and_parts (fits k t) (all_fit k ts) fit in
      let r = reads k t both.0 (next_spot at 32) (left_at (codes " ") false (map form_text (forms_of ts)) ++ rest) (ends_word (forms_of ts) rest ends) in
      spaced_forms (form_of t) (forms_of ts) at rest r (reads_all k ts false both.1 r.behind rest ends)

-- the text of each form is UTF-8
ascii_text : (text : List ℕ) → is_ascii text ≡ true → IsUtf8 text
ascii_text [] e = IsUtf8-nil
ascii_text (b ∷ bs) e =
    let both = and_parts (nat_lt b 128) (is_ascii bs) e in
    ascii_then b bs (grind (arith, nat_tests, both.0)) (ascii_text bs both.1)

later_ascii : (b : ℕ) → is_later_byte b ≡ true → b < 128
later_ascii b h = grind (arith, nat_tests)

name_text : (name : List ℕ) → list_all is_later_byte name ≡ true → IsUtf8 name
name_text [] e = IsUtf8-nil
name_text (b ∷ bs) e =
    let both = and_parts (is_later_byte b) (list_all is_later_byte bs) e in
    ascii_then b bs (later_ascii b both.0) (name_text bs both.1)

mutual
  pub utf8 : (t : Tree) → IsUtf8 (form_text (form_of t))
  utf8 (Tree.word name is) =
      let parts = and_parts (begins is_name_byte name && list_all is_later_byte name) (list_all is_word_byte name && is_other (lead_of name)) is in
      rw (text_is (Tree.word name is)) (name_text name (and_parts (begins is_name_byte name) (list_all is_later_byte name) parts.0).1)
  utf8 (Tree.number n small) = rw (text_is (Tree.number n small)) (IsUtf8-from_ascii (decimal n) (IsAscii-decimal n (omega (arith, small))))
  utf8 (Tree.string text is) = rw (text_is (Tree.string text is)) (ascii_text (quoted text) is)
  utf8 (Tree.list ts) = rw (form_text-at start (form.List (forms_of ts))) (group_text ListGroup (forms_of ts) (all_utf8 ts))
  utf8 (Tree.vector ts) = rw (form_text-at start (form.Vector (forms_of ts))) (group_text Vector (forms_of ts) (all_utf8 ts))
  utf8 (Tree.at_sign t) = rw (form_text-at start (form.At (form_of t ∷ []))) (group_text At (form_of t ∷ []) (utf8 t, tt))

  all_utf8 : (ts : Trees) → AreTexts (forms_of ts)
  all_utf8 Trees.none = tt
  all_utf8 (Trees.more t ts) = (utf8 t, all_utf8 ts)
