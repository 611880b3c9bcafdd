-- What a piece of code names.
use Rattle.std.specs.Prelude.{ℕ, ◌+◌, List, [], ◌∷◌, ◌++◌}
use Rattle.resolved_forms.specs.declared.head.Head.{Head}
use Rattle.resolved_forms.specs.declared.head.Head.TheVariants as head
use Rattle.resolved_forms.specs.declared.uses.Uses.{Uses}

abbrev pub no_uses : Uses
no_uses = record { globals = []; units = [] }

-- what the first piece names, and then the other one
abbrev pub both_uses : Uses → Uses → Uses
both_uses first other = record { globals = first.globals ++ other.globals; units = first.units ++ other.units }

-- the unit that a function is: behind all behaviours
abbrev pub function_unit : ℕ → ℕ → ℕ
function_unit behaviours number = behaviours + number

-- the units that a head names
abbrev pub head_units : ℕ → Head → List ℕ
head_units behaviours (head.Call number) = function_unit behaviours number ∷ []
head_units behaviours (head.Spawn number) = number ∷ []
head_units behaviours (head.Become number) = number ∷ []
head_units behaviours _ = []
