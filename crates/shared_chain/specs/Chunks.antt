-- Lists that are kept in pieces.
use Rattle.std.specs.Prelude.{List, [], ◌∷◌, ◌++◌}

-- the pieces one after the other
abbrev pub joined : {X : Type 0} → List (List X) → List X
joined [] = []
joined (chunk ∷ chunks) = chunk ++ joined chunks
