-- Values in maps over one another.
use Rattle.std.specs.Prelude.{List, [], ◌∷◌}
use Rattle.value_core.specs.Named.{Named, over}

-- the first map over the others
abbrev pub layered : {X : Type 0} → List (Named X) → Named X
layered [] = []
layered (upper ∷ lower) = over upper (layered lower)
