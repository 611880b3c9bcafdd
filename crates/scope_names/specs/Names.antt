-- Names: how core forms carry them, and what they stand for at the top level.
use Rattle.std.specs.Prelude.{ℕ, if◌then◌else◌, List, [], ◌∷◌, ◌++◌, Option, None, Some, decimal, codes}
use Rattle.std.specs.Str.{bytes_eq}
use Rattle.scope_names.specs.declared.definition.Definition.{Definition}
use Rattle.scope_names.specs.declared.definition.What.{What}

-- the name of a made local; no symbol has the first byte
abbrev pub made_name : ℕ → List ℕ
made_name n = codes "#" ++ decimal n

-- what a name of the top level stands for: the first definition counts
abbrev pub defined : List Definition → List ℕ → Option What
defined [] name = None
defined (d ∷ ds) name = if bytes_eq d.name name then Some d.what else defined ds name
