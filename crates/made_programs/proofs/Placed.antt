-- Forms of a shape, wherever each part stands, and what they come to without shorthands.
use Rattle.std.proofs.Common.{◌≡◌, pos, List, [], ◌∷◌, map, refl, ap, ◌∙◌, rules}
use Rattle.value_core.specs.Place.{Spot}
use Rattle.sexpr_reader.specs.declared.form.Form.{Form}
use Rattle.sexpr_reader.specs.declared.form.FormKind.{the_lemmas}
use Rattle.sexpr_reader.specs.declared.form.FormKind.TheVariants as form
use Rattle.sexpr_reader.specs.declared.token.Atom.{Atom}
use Rattle.sexpr_reader.specs.declared.token.Atom.TheVariants as single
use Rattle.sexpr_reader.specs.Forms.{form_at, atom_kind}
use Rattle.sexpr_reader.specs.Tokens.{named}
use Rattle.sugar.specs.declared.core_form.CoreKind.TheVariants as core
use Rattle.sugar.specs.Meaning.{Head, Meaning, atom, symbol, group}
use Rattle.sugar.specs.Sugar.{of_at}
use Rattle.sugar.specs.Expansion.{meaning, of_list}
use Rattle.made_programs.proofs.Trees.{Tree, Trees}

-- where a tree and its parts stand
abbrev mutual
  pub Places : Tree → Type 0
  Places (Tree.word name is) = Spot
  Places (Tree.number n small) = Spot
  Places (Tree.string text is) = Spot
  Places (Tree.list ts) = Spot × AllPlaces ts
  Places (Tree.vector ts) = Spot × AllPlaces ts
  Places (Tree.at_sign t) = Spot × Places t

  pub AllPlaces : Trees → Type 0
  AllPlaces Trees.none = Unit {0}
  AllPlaces (Trees.more t ts) = Places t × AllPlaces ts

-- the form of that shape whose parts stand there
abbrev mutual
  pub placed : (t : Tree) → Places t → Form
  placed (Tree.word name is) p = form_at p (atom_kind (named name))
  placed (Tree.number n small) p = form_at p (form.Int (pos n))
  placed (Tree.string text is) p = form_at p (form.Str text)
  placed (Tree.list ts) p = form_at p.0 (form.List (all_placed ts p.1))
  placed (Tree.vector ts) p = form_at p.0 (form.Vector (all_placed ts p.1))
  placed (Tree.at_sign t) p = form_at p.0 (form.At (placed t p.1 ∷ []))

  pub all_placed : (ts : Trees) → AllPlaces ts → List Form
  all_placed Trees.none p = []
  all_placed (Trees.more t ts) p = placed t p.0 ∷ all_placed ts p.1

-- what it comes to
abbrev pub atom_meant : Atom → Spot → Meaning
atom_meant single.Nil at = atom Head.Other core.Nil at
atom_meant (single.Bool b) at = atom Head.Other (core.Bool b) at
atom_meant (single.Int n) at = atom Head.Other (core.Int n) at
atom_meant (single.Str text) at = atom Head.Other (core.Str text) at
atom_meant (single.Kw name) at = atom Head.Keyword (core.Kw name) at
atom_meant (single.Sym name) at = symbol name at

abbrev mutual
  pub meant : (t : Tree) → Places t → Meaning
  meant (Tree.word name is) p = atom_meant (named name) p
  meant (Tree.number n small) p = atom Head.Other (core.Int (pos n)) p
  meant (Tree.string text is) p = atom Head.Other (core.Str text) p
  meant (Tree.list ts) p = of_list p.0 (all_meant ts p.1)
  meant (Tree.vector ts) p = group core.Vector p.0 (all_meant ts p.1)
  meant (Tree.at_sign t) p = of_at p.0 (meant t p.1 ∷ [])

  pub all_meant : (ts : Trees) → AllPlaces ts → List Meaning
  all_meant Trees.none p = []
  all_meant (Trees.more t ts) p = meant t p.0 ∷ all_meant ts p.1

meaning-atom : (at : Spot) (a : Atom) → meaning (form_at at (atom_kind a)) ≡ atom_meant a at
meaning-atom at single.Nil = search (rules, the_lemmas)
meaning-atom at (single.Bool b) = search (rules, the_lemmas)
meaning-atom at (single.Int n) = search (rules, the_lemmas)
meaning-atom at (single.Str text) = search (rules, the_lemmas)
meaning-atom at (single.Kw name) = search (rules, the_lemmas)
meaning-atom at (single.Sym name) = search (rules, the_lemmas)

meaning-List : (at : Spot) (parts : List Form) → meaning (form_at at (form.List parts)) ≡ of_list at (map meaning parts)
meaning-List at parts = search (rules, the_lemmas)

meaning-Vector : (at : Spot) (parts : List Form) → meaning (form_at at (form.Vector parts)) ≡ group core.Vector at (map meaning parts)
meaning-Vector at parts = search (rules, the_lemmas)

meaning-At : (at : Spot) (parts : List Form) → meaning (form_at at (form.At parts)) ≡ of_at at (map meaning parts)
meaning-At at parts = search (rules, the_lemmas)

mutual
  pub meaning_is : (t : Tree) (p : Places t) → meaning (placed t p) ≡ meant t p
  meaning_is (Tree.word name is) p = meaning-atom p (named name)
  meaning_is (Tree.number n small) p = meaning-atom p (single.Int (pos n))
  meaning_is (Tree.string text is) p = meaning-atom p (single.Str text)
  meaning_is (Tree.list ts) p = meaning-List p.0 (all_placed ts p.1) ∙ ap (of_list p.0) (meanings_are ts p.1)
  meaning_is (Tree.vector ts) p = meaning-Vector p.0 (all_placed ts p.1) ∙ ap (group core.Vector p.0) (meanings_are ts p.1)
  meaning_is (Tree.at_sign t) p = meaning-At p.0 (placed t p.1 ∷ []) ∙ ap (λ m. of_at p.0 (m ∷ [])) (meaning_is t p.1)

  pub meanings_are : (ts : Trees) (p : AllPlaces ts) → map meaning (all_placed ts p) ≡ all_meant ts p
  meanings_are Trees.none p = refl
  meanings_are (Trees.more t ts) p = ap (λ m. m ∷ map meaning (all_placed ts p.1)) (meaning_is t p.0) ∙ ap (λ ms. meant t p.0 ∷ ms) (meanings_are ts p.1)
