-- The program of a source.
use Rattle.std.specs.Prelude.{ℕ, List}
use Rattle.sexpr_reader.specs.declared.form.Form.{Form}
use Rattle.sexpr_reader.specs.Grammar.{IsSource}
use Rattle.core_syntax.specs.Table.{Table}
use Rattle.scope_check.specs.Check.{IsProgram}

-- the bytes are a source whose forms have this program by scope
pub record IsProgramOf (bytes : List ℕ) (table : Table) : Type 0 where
  pub forms : List Form
  pub source : IsSource bytes forms
  pub scope : IsProgram forms table
