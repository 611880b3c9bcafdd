-- Forms, their places aside.
use Rattle.sexpr_reader.specs.declared.form.Form.{Form}
use Rattle.sexpr_reader.specs.declared.form.FormKind.{FormKind}
use Rattle.sexpr_reader.specs.declared.form.FormKind.TheVariants as form
use Rattle.sexpr_reader.specs.declared.form.FormKind.TheOpen as one
use Rattle.sexpr_reader.specs.declared.form.FormKind.TheFolds.{fold-Form}
use Rattle.sexpr_reader.specs.Cursor.{start}
use Rattle.sexpr_reader.specs.Forms.{form_at}

-- one level of a form, with each part in its place
abbrev pub made_kind : one.FormKind-F FormKind Form → FormKind
made_kind one.Nil = form.Nil
made_kind (one.Bool b) = form.Bool b
made_kind (one.Int n) = form.Int n
made_kind (one.Str text) = form.Str text
made_kind (one.Kw name) = form.Kw name
made_kind (one.Sym name) = form.Sym name
made_kind (one.List parts) = form.List parts
made_kind (one.Vector parts) = form.Vector parts
made_kind (one.Map parts) = form.Map parts
made_kind (one.At parts) = form.At parts

abbrev pub made_at_start : one.Form-F FormKind Form → Form
made_at_start f = form_at start f.kind

-- the form as if each of its forms began at the start of a source
abbrev pub without_places : Form → Form
without_places = fold-Form FormKind Form made_kind made_at_start
