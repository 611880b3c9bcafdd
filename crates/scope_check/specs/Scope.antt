-- What is known where an expression stands.
use Rattle.std.specs.Prelude.{ℕ, false, List, ◌++◌}
use Rattle.scope_names.specs.declared.definition.Definition.{Definition}
use Rattle.scope_names.specs.declared.found.Found.{Found}
use Rattle.scope_check.specs.declared.stand.Stand.{Stand}
use Rattle.scope_names.specs.Finding.{find}

-- the definitions of the file, the locals from the outermost on, and the innermost loop or function, with whether the
-- expression is in tail position there
pub record Scope : Type 0 where
  pub definitions : List Definition
  pub locals : List (List ℕ)
  pub stand : Stand

abbrev pub inner : Stand → Stand
inner stand = record { target = stand.target; tail = false }

-- the same scope where nothing is in tail position
abbrev pub inside : Scope → Scope
inside scope = record { definitions = scope.definitions; locals = scope.locals; stand = inner scope.stand }

abbrev pub with_stand : Stand → Scope → Scope
with_stand stand scope = record { definitions = scope.definitions; locals = scope.locals; stand = stand }

-- the scope with further locals
abbrev pub binding : List (List ℕ) → Scope → Scope
binding names scope = record { definitions = scope.definitions; locals = scope.locals ++ names; stand = scope.stand }

abbrev pub find_in : Scope → List ℕ → Found
find_in scope name = find scope.definitions scope.locals name
