-- The core forms of a source.
use Rattle.std.specs.Prelude.{ℕ, if◌then◌else◌, List, [], ◌∷◌, map, codes}
use Rattle.std.specs.Str.{bytes_eq}
use Rattle.value_core.specs.Place.{Spot}
use Rattle.sexpr_reader.specs.declared.form.Form.{Form}
use Rattle.sexpr_reader.specs.declared.form.FormKind.TheOpen as one
use Rattle.sexpr_reader.specs.declared.form.FormKind.TheFolds.{fold-Form}
use Rattle.sugar.specs.declared.core_form.Core.{Core}
use Rattle.sugar.specs.declared.core_form.CoreKind.TheVariants as core
use Rattle.sugar.specs.declared.expansion.Sugar.{Sugar}
use Rattle.sugar.specs.declared.expansion.Sugar.TheVariants.{Plain, If, When, Lookup, Alter}
use Rattle.sugar.specs.Meaning.{Head, Meaning, atom, symbol, cores, group, list}
use Rattle.sugar.specs.Sugar.{of_at, of_if, of_when, of_keyword, of_alter}

-- what a list with this word for a head is a shorthand for
abbrev pub sugar_named : List ℕ → Sugar
sugar_named word =
    if bytes_eq word (codes "if") then If
    else (if bytes_eq word (codes "when") then When
    else (if bytes_eq word (codes "alter") then Alter
    else Plain))

abbrev pub sugar_at : Head → Sugar
sugar_at (Head.Word word) = sugar_named word
sugar_at Head.Keyword = Lookup
sugar_at Head.Other = Plain

-- the head of a list decides what it is a shorthand for
abbrev pub sugar_in : List Meaning → Sugar
sugar_in [] = Plain
sugar_in (head ∷ arguments) = sugar_at head.head

abbrev pub of_sugar : Sugar → Spot → List Meaning → Meaning
of_sugar Plain = list
of_sugar If = of_if
of_sugar When = of_when
of_sugar Lookup = of_keyword
of_sugar Alter = of_alter

abbrev pub of_list : Spot → List Meaning → Meaning
of_list at parts = of_sugar (sugar_in parts) at parts

-- one level of a form, with the meaning of each part in its place
abbrev pub kind_step : one.FormKind-F (Spot → Meaning) Meaning → Spot → Meaning
kind_step one.Nil at = atom Head.Other core.Nil at
kind_step (one.Bool b) at = atom Head.Other (core.Bool b) at
kind_step (one.Int n) at = atom Head.Other (core.Int n) at
kind_step (one.Str text) at = atom Head.Other (core.Str text) at
kind_step (one.Kw name) at = atom Head.Keyword (core.Kw name) at
kind_step (one.Sym name) at = symbol name at
kind_step (one.List parts) at = of_list at parts
kind_step (one.Vector parts) at = group core.Vector at parts
kind_step (one.Map parts) at = group core.Map at parts
kind_step (one.At parts) at = of_at at parts

abbrev pub form_step : one.Form-F (Spot → Meaning) Meaning → Meaning
form_step form = form.kind form.at

abbrev pub meaning : Form → Meaning
meaning = fold-Form (Spot → Meaning) Meaning kind_step form_step

-- the core forms of a source; its made names are numbered from 0
abbrev pub expanded : List Form → List Core
expanded forms = cores (map meaning forms) 0
