-- What a word stands for where it is used.
use Rattle.std.specs.Prelude.{ℕ, Bool, true, false, ◌||◌, List, Option, None, Some, is_some}
use Rattle.sugar.specs.Words.{is_form_word}
use Rattle.scope_names.specs.declared.definition.Definition.{Definition}
use Rattle.scope_names.specs.declared.definition.What.{What}
use Rattle.scope_names.specs.declared.found.Found.{Found}
use Rattle.scope_names.specs.declared.found.Found.TheVariants.{Local, Reserved, Defined, Nothing}
use Rattle.scope_locals.specs.Innermost.{innermost}
use Rattle.scope_names.specs.Names.{defined}
use Rattle.scope_names.specs.Ops.{op_of}

-- reserved are the words of the forms and of the primitives
abbrev pub is_reserved : List ℕ → Bool
is_reserved word = is_form_word word || is_some (op_of word)

abbrev pub found_defined : Option What → Found
found_defined (Some what) = Defined what
found_defined None = Nothing

abbrev pub found_reserved : Bool → Option What → Found
found_reserved true what = Reserved
found_reserved false what = found_defined what

abbrev pub found_local : Option ℕ → Found → Found
found_local (Some level) outside = Local level
found_local None outside = outside

-- what a name stands for: the innermost local, else a reserved word, else what the file defines
unfoldable pub find : List Definition → List (List ℕ) → List ℕ → Found
find definitions locals name = found_local (innermost locals name) (found_reserved (is_reserved name) (defined definitions name))
