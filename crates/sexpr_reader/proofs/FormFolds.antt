-- What a form's text is, and what the form is without its places, at each kind of form.
use Rattle.std.proofs.Common.{◌≡◌, ℕ, Bool, ℤ, List, [], ◌++◌, map, rules}
use Rattle.std.specs.Prelude.{codes}
use Rattle.std.specs.Fmt.{signed_decimal}
use Rattle.value_core.specs.Place.{Spot}
use Rattle.value_core.specs.Texts.{bool_text, quoted}
use Rattle.sexpr_reader.specs.declared.form.Form.{Form}
use Rattle.sexpr_reader.specs.declared.form.FormKind.{FormKind, the_lemmas}
use Rattle.sexpr_reader.specs.declared.form.FormKind.TheVariants as form
use Rattle.sexpr_reader.specs.declared.group.Group.{Group}
use Rattle.sexpr_reader.specs.declared.group.Group.TheVariants.{List as ListGroup, Vector, Map, At}
use Rattle.sexpr_reader.specs.declared.token.Atom.{Atom}
use Rattle.sexpr_reader.specs.declared.token.Atom.TheVariants as single
use Rattle.sexpr_reader.specs.Cursor.{start}
use Rattle.sexpr_reader.specs.Forms.{form_at, group_kind, atom_kind}
use Rattle.sexpr_reader.specs.Places.{without_places}
use Rattle.sexpr_reader.specs.Spelling.{grouped, kind_text, form_text}

pub kind_text-Str : (text : List ℕ) → kind_text (form.Str text) ≡ quoted text
kind_text-Str text = search (rules, the_lemmas)

pub kind_text-Int : (n : ℤ) → kind_text (form.Int n) ≡ signed_decimal n
kind_text-Int n = search (rules, the_lemmas)

pub kind_text-Kw : (name : List ℕ) → kind_text (form.Kw name) ≡ codes ":" ++ name
kind_text-Kw name = search (rules, the_lemmas)

pub kind_text-Sym : (name : List ℕ) → kind_text (form.Sym name) ≡ name
kind_text-Sym name = search (rules, the_lemmas)

pub kind_text-Bool : (b : Bool) → kind_text (form.Bool b) ≡ bool_text b
kind_text-Bool b = search (rules, the_lemmas)

pub kind_text-Nil : kind_text form.Nil ≡ codes "nil"
kind_text-Nil = search (rules, the_lemmas)

pub kind_text-List : (parts : List Form) → kind_text (form.List parts) ≡ grouped (codes "(") (codes ")") (map form_text parts)
kind_text-List parts = search (rules, the_lemmas)

pub kind_text-Vector : (parts : List Form) → kind_text (form.Vector parts) ≡ grouped (codes "[") (codes "]") (map form_text parts)
kind_text-Vector parts = search (rules, the_lemmas)

pub kind_text-Map : (parts : List Form) → kind_text (form.Map parts) ≡ grouped (codes "{") (codes "}") (map form_text parts)
kind_text-Map parts = search (rules, the_lemmas)

pub kind_text-At : (parts : List Form) → kind_text (form.At parts) ≡ grouped (codes "@") [] (map form_text parts)
kind_text-At parts = search (rules, the_lemmas)

pub form_text-at : (at : Spot) (kind : FormKind) → form_text (form_at at kind) ≡ kind_text kind
form_text-at at kind = search (rules, the_lemmas)

pub without_places-atom : (at : Spot) (a : Atom) → without_places (form_at at (atom_kind a)) ≡ form_at start (atom_kind a)
without_places-atom at single.Nil = search (rules, the_lemmas)
without_places-atom at (single.Bool b) = search (rules, the_lemmas)
without_places-atom at (single.Int n) = search (rules, the_lemmas)
without_places-atom at (single.Str text) = search (rules, the_lemmas)
without_places-atom at (single.Kw name) = search (rules, the_lemmas)
without_places-atom at (single.Sym name) = search (rules, the_lemmas)

pub without_places-group : (at : Spot) (g : Group) (parts : List Form) → without_places (form_at at (group_kind g parts)) ≡ form_at start (group_kind g (map without_places parts))
without_places-group at ListGroup parts = search (rules, the_lemmas)
without_places-group at Vector parts = search (rules, the_lemmas)
without_places-group at Map parts = search (rules, the_lemmas)
without_places-group at At parts = search (rules, the_lemmas)
