use Rattle.std.proofs.Common.{◌≡◌, ◌++◌, drop}
use Rattle.sexpr_reader.specs.Spelling.{spelling}
use Rattle.sexpr_reader.proofs.spelling.spell.Given as goal

abbrev pub invariant-loop-form : goal.invariant-loop-form
invariant-loop-form l = l.text ++ spelling (drop l.form-index l.form-items) ≡ spelling l.form-items
