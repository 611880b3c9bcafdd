-- A form that is of a shape, places aside, is the form of that shape somewhere.
use Rattle.std.proofs.Common.{◌≡◌, ℕ, ℤ, pos, Bool, List, [], ◌∷◌, map, refl, sym, ap, ◌∙◌, rules}
use Rattle.std.specs.Prelude.{Option, None, Some}
use Rattle.sexpr_reader.specs.declared.form.Form.{Form}
use Rattle.sexpr_reader.specs.declared.form.FormKind.{FormKind, the_lemmas}
use Rattle.sexpr_reader.specs.declared.form.FormKind.TheOpen as one
use Rattle.sexpr_reader.specs.declared.form.FormKind.TheVariants as form
use Rattle.sexpr_reader.specs.declared.form.FormKind.TheViews.{out-FormKind}
use Rattle.sexpr_reader.specs.declared.group.Group.{Group}
use Rattle.sexpr_reader.specs.declared.group.Group.TheVariants.{List as ListGroup, Vector, Map, At}
use Rattle.sexpr_reader.specs.declared.token.Atom.{Atom}
use Rattle.sexpr_reader.specs.declared.token.Atom.TheVariants as single
use Rattle.sexpr_reader.specs.Cursor.{start}
use Rattle.sexpr_reader.specs.Forms.{form_at, atom_kind, group_kind}
use Rattle.sexpr_reader.specs.Places.{without_places}
use Rattle.sexpr_reader.specs.Tokens.{named}
use Rattle.sexpr_reader.proofs.FormFolds.{without_places-atom, without_places-group}
use Rattle.made_programs.proofs.Assembled.{ListPlaces, placed_list}
use Rattle.made_programs.proofs.Placed.{AllPlaces, Places, all_placed, placed}
use Rattle.made_programs.proofs.Trees.{Tree, Trees, form_of, forms_of}

-- a kind of form is one of an atom, or of some forms in brackets
data Kinds (k : FormKind) : Type 0 where
  atom : (a : Atom) → k ≡ atom_kind a → Kinds k
  group : (g : Group) (parts : List Form) → k ≡ group_kind g parts → Kinds k

nil_of : (k : FormKind) → out-FormKind k ≡ one.Nil → k ≡ form.Nil
nil_of k e = search (rules, the_lemmas)

bool_of : (k : FormKind) (b : Bool) → out-FormKind k ≡ one.Bool b → k ≡ form.Bool b
bool_of k b e = search (rules, the_lemmas)

int_of : (k : FormKind) (n : ℤ) → out-FormKind k ≡ one.Int n → k ≡ form.Int n
int_of k n e = search (rules, the_lemmas)

str_of : (k : FormKind) (text : List ℕ) → out-FormKind k ≡ one.Str text → k ≡ form.Str text
str_of k text e = search (rules, the_lemmas)

kw_of : (k : FormKind) (name : List ℕ) → out-FormKind k ≡ one.Kw name → k ≡ form.Kw name
kw_of k name e = search (rules, the_lemmas)

sym_of : (k : FormKind) (name : List ℕ) → out-FormKind k ≡ one.Sym name → k ≡ form.Sym name
sym_of k name e = search (rules, the_lemmas)

list_of : (k : FormKind) (parts : List Form) → out-FormKind k ≡ one.List parts → k ≡ form.List parts
list_of k parts e = search (rules, the_lemmas)

vector_of : (k : FormKind) (parts : List Form) → out-FormKind k ≡ one.Vector parts → k ≡ form.Vector parts
vector_of k parts e = search (rules, the_lemmas)

map_of : (k : FormKind) (parts : List Form) → out-FormKind k ≡ one.Map parts → k ≡ form.Map parts
map_of k parts e = search (rules, the_lemmas)

at_of : (k : FormKind) (parts : List Form) → out-FormKind k ≡ one.At parts → k ≡ form.At parts
at_of k parts e = search (rules, the_lemmas)

kinds : (k : FormKind) → Kinds k
kinds k = by (out-FormKind k) refl where
  by : (l : one.FormKind-F FormKind Form) → out-FormKind k ≡ l → Kinds k
  by one.Nil e = Kinds.atom single.Nil (nil_of k e)
  by (one.Bool b) e = Kinds.atom (single.Bool b) (bool_of k b e)
  by (one.Int n) e = Kinds.atom (single.Int n) (int_of k n e)
  by (one.Str text) e = Kinds.atom (single.Str text) (str_of k text e)
  by (one.Kw name) e = Kinds.atom (single.Kw name) (kw_of k name e)
  by (one.Sym name) e = Kinds.atom (single.Sym name) (sym_of k name e)
  by (one.List parts) e = Kinds.group ListGroup parts (list_of k parts e)
  by (one.Vector parts) e = Kinds.group Vector parts (vector_of k parts e)
  by (one.Map parts) e = Kinds.group Map parts (map_of k parts e)
  by (one.At parts) e = Kinds.group At parts (at_of k parts e)

-- what tells them apart
abbrev group_in : {A B : Type 0} → one.FormKind-F A B → Option Group
group_in (one.List parts) = Some ListGroup
group_in (one.Vector parts) = Some Vector
group_in (one.Map parts) = Some Map
group_in (one.At parts) = Some At
group_in _ = None

abbrev parts_in : {A B : Type 0} → one.FormKind-F A B → List B
parts_in (one.List parts) = parts
parts_in (one.Vector parts) = parts
parts_in (one.Map parts) = parts
parts_in (one.At parts) = parts
parts_in _ = []

no_group : (a : Atom) → group_in (out-FormKind (atom_kind a)) ≡ None
no_group single.Nil = search (rules, the_lemmas)
no_group (single.Bool b) = search (rules, the_lemmas)
no_group (single.Int n) = search (rules, the_lemmas)
no_group (single.Str text) = search (rules, the_lemmas)
no_group (single.Kw name) = search (rules, the_lemmas)
no_group (single.Sym name) = search (rules, the_lemmas)

its_group : (g : Group) (parts : List Form) → group_in (out-FormKind (group_kind g parts)) ≡ Some g
its_group ListGroup parts = search (rules, the_lemmas)
its_group Vector parts = search (rules, the_lemmas)
its_group Map parts = search (rules, the_lemmas)
its_group At parts = search (rules, the_lemmas)

its_parts : (g : Group) (parts : List Form) → parts_in (out-FormKind (group_kind g parts)) ≡ parts
its_parts ListGroup parts = search (rules, the_lemmas)
its_parts Vector parts = search (rules, the_lemmas)
its_parts Map parts = search (rules, the_lemmas)
its_parts At parts = search (rules, the_lemmas)

none_some : (g : Group) → None ≡ Some g → ⊥
none_some g e = cc

-- a form that is an atom, places aside
like_atom : (f : Form) (a : Atom) → without_places f ≡ form_at start (atom_kind a) → Kinds f.kind → f ≡ form_at f.at (atom_kind a)
like_atom f a e (Kinds.atom b is) =
    let same : atom_kind b ≡ atom_kind a = ap (λ (x : Form). x.kind) (sym (without_places-atom f.at b) ∙ ap (λ k. without_places (form_at f.at k)) (sym is) ∙ e) in
    ap (form_at f.at) (is ∙ same)
like_atom f a e (Kinds.group g parts is) =
    let same : group_kind g (map without_places parts) ≡ atom_kind a = ap (λ (x : Form). x.kind) (sym (without_places-group f.at g parts) ∙ ap (λ k. without_places (form_at f.at k)) (sym is) ∙ e) in
    absurd (none_some g (sym (no_group a) ∙ ap (λ k. group_in (out-FormKind k)) (sym same) ∙ its_group g (map without_places parts)))

-- a form that is some in such brackets
record LikeGroup (f : Form) (g : Group) (others : List Form) : Type 0 where
  parts : List Form
  is : f ≡ form_at f.at (group_kind g parts)
  alike : map without_places parts ≡ others

some_same : (g h : Group) → Some g ≡ Some h → g ≡ h
some_same g h e = cc

like_group : (f : Form) (g : Group) (others : List Form) → without_places f ≡ form_at start (group_kind g others) → Kinds f.kind → LikeGroup f g others
like_group f g others e (Kinds.atom b is) =
    let same : atom_kind b ≡ group_kind g others = ap (λ (x : Form). x.kind) (sym (without_places-atom f.at b) ∙ ap (λ k. without_places (form_at f.at k)) (sym is) ∙ e) in
    absurd (none_some g (sym (no_group b) ∙ ap (λ k. group_in (out-FormKind k)) same ∙ its_group g others))
like_group f g others e (Kinds.group h parts is) =
    let same : group_kind h (map without_places parts) ≡ group_kind g others = ap (λ (x : Form). x.kind) (sym (without_places-group f.at h parts) ∙ ap (λ k. without_places (form_at f.at k)) (sym is) ∙ e) in
    let groups : h ≡ g = some_same h g (sym (its_group h (map without_places parts)) ∙ ap (λ k. group_in (out-FormKind k)) same ∙ its_group g others) in
    record {
      parts = parts;
      is = ap (form_at f.at) is ∙ ap (λ x. form_at f.at (group_kind x parts)) groups;
      alike = sym (its_parts h (map without_places parts)) ∙ ap (λ k. parts_in (out-FormKind k)) same ∙ its_parts g others;
    }

-- where its parts stand
record Stands (t : Tree) (f : Form) : Type 0 where
  places : Places t
  is : f ≡ placed t places

record AllStand (ts : Trees) (fs : List Form) : Type 0 where
  places : AllPlaces ts
  are : fs ≡ all_placed ts places

heads : {a b : Form} {xs ys : List Form} → a ∷ xs ≡ b ∷ ys → a ≡ b
heads e = cc

tails : {a b : Form} {xs ys : List Form} → a ∷ xs ≡ b ∷ ys → xs ≡ ys
tails e = cc

only_part : (parts : List Form) (x : Form) → map without_places parts ≡ x ∷ [] → (part : Form) × (parts ≡ part ∷ []) × (without_places part ≡ x)
only_part [] x e = absurd (cc)
only_part (part ∷ []) x e = (part, refl, heads e)
only_part (part ∷ next ∷ parts) x e = absurd (let y = tails e in cc)

mutual
  somewhere : (t : Tree) (f : Form) → without_places f ≡ without_places (form_of t) → Stands t f
  somewhere (Tree.word name is) f e = record { places = f.at; is = like_atom f (named name) (e ∙ without_places-atom start (named name)) (kinds f.kind) }
  somewhere (Tree.number n small) f e = record { places = f.at; is = like_atom f (single.Int (pos n)) (e ∙ without_places-atom start (single.Int (pos n))) (kinds f.kind) }
  somewhere (Tree.string text is) f e = record { places = f.at; is = like_atom f (single.Str text) (e ∙ without_places-atom start (single.Str text)) (kinds f.kind) }
  somewhere (Tree.list ts) f e =
      let l = like_group f ListGroup (map without_places (forms_of ts)) (e ∙ without_places-group start ListGroup (forms_of ts)) (kinds f.kind) in
      let r = all_somewhere ts l.parts l.alike in
      record { places = (f.at, r.places); is = l.is ∙ ap (λ ps. form_at f.at (form.List ps)) r.are }
  somewhere (Tree.vector ts) f e =
      let l = like_group f Vector (map without_places (forms_of ts)) (e ∙ without_places-group start Vector (forms_of ts)) (kinds f.kind) in
      let r = all_somewhere ts l.parts l.alike in
      record { places = (f.at, r.places); is = l.is ∙ ap (λ ps. form_at f.at (form.Vector ps)) r.are }
  somewhere (Tree.at_sign t) f e =
      let l = like_group f At (without_places (form_of t) ∷ []) (e ∙ without_places-group start At (form_of t ∷ [])) (kinds f.kind) in
      let o = only_part l.parts (without_places (form_of t)) l.alike in
      let r = somewhere t o.0 o.2 in
      record { places = (f.at, r.places); is = l.is ∙ ap (λ ps. form_at f.at (form.At ps)) o.1 ∙ ap (λ p. form_at f.at (form.At (p ∷ []))) r.is }

  all_somewhere : (ts : Trees) (fs : List Form) → map without_places fs ≡ map without_places (forms_of ts) → AllStand ts fs
  all_somewhere Trees.none [] e = record { places = tt; are = refl }
  all_somewhere Trees.none (f ∷ fs) e = absurd (cc)
  all_somewhere (Trees.more t ts) [] e = absurd (cc)
  all_somewhere (Trees.more t ts) (f ∷ fs) e =
      let r = somewhere t f (heads e) in
      let q = all_somewhere ts fs (tails e) in
      record { places = (r.places, q.places); are = ap (λ x. x ∷ fs) r.is ∙ ap (λ xs. placed t r.places ∷ xs) q.are }

pub record ListAt (ts : List Tree) (fs : List Form) : Type 0 where
  pub places : ListPlaces ts
  pub are : fs ≡ placed_list ts places

pub list_somewhere : (ts : List Tree) (fs : List Form) → map without_places fs ≡ map without_places (map form_of ts) → ListAt ts fs
list_somewhere [] [] e = record { places = tt; are = refl }
list_somewhere [] (f ∷ fs) e = absurd (cc)
list_somewhere (t ∷ ts) [] e = absurd (cc)
list_somewhere (t ∷ ts) (f ∷ fs) e =
    let r = somewhere t f (heads e) in
    let q = list_somewhere ts fs (tails e) in
    record { places = (r.places, q.places); are = ap (λ x. x ∷ fs) r.is ∙ ap (λ xs. placed t r.places ∷ xs) q.are }
