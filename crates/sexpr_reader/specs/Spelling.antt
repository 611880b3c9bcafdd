-- How forms are written.
use Rattle.std.specs.Prelude.{ℕ, List, [], ◌++◌, codes}
use Rattle.std.specs.Fmt.{signed_decimal}
use Rattle.std.specs.List.{flat_map}
use Rattle.value_core.specs.Texts.{bool_text, joined, quoted}
use Rattle.sexpr_reader.specs.declared.form.Form.{Form}
use Rattle.sexpr_reader.specs.declared.form.FormKind.{FormKind}
use Rattle.sexpr_reader.specs.declared.form.FormKind.TheOpen as one
use Rattle.sexpr_reader.specs.declared.form.FormKind.TheFolds.{fold-Form, fold-FormKind}

-- the parts one after another with one space between them, and what stands round them
abbrev pub grouped : List ℕ → List ℕ → List (List ℕ) → List ℕ
grouped opens closes parts = opens ++ joined (codes " ") parts ++ closes

-- one level of a form, with the text of each part in its place
abbrev pub kind_step : one.FormKind-F (List ℕ) (List ℕ) → List ℕ
kind_step one.Nil = codes "nil"
kind_step (one.Bool b) = bool_text b
kind_step (one.Int n) = signed_decimal n
kind_step (one.Str text) = quoted text
kind_step (one.Kw name) = codes ":" ++ name
kind_step (one.Sym name) = name
kind_step (one.List parts) = grouped (codes "(") (codes ")") parts
kind_step (one.Vector parts) = grouped (codes "[") (codes "]") parts
kind_step (one.Map parts) = grouped (codes "{") (codes "}") parts
kind_step (one.At parts) = grouped (codes "@") [] parts

abbrev pub form_step : one.Form-F (List ℕ) (List ℕ) → List ℕ
form_step form = form.kind

abbrev pub kind_text : FormKind → List ℕ
kind_text = fold-FormKind (List ℕ) (List ℕ) kind_step form_step

abbrev pub form_text : Form → List ℕ
form_text = fold-Form (List ℕ) (List ℕ) kind_step form_step

-- the forms one per line
abbrev pub spelling : List Form → List ℕ
spelling forms = flat_map (λ form. form_text form ++ codes "\n") forms
