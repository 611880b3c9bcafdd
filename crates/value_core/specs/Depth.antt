-- How deep a value is.
use Rattle.std.specs.Prelude.{ℕ, ◌+◌, max, List, [], ◌∷◌, map}
use Rattle.value_core.specs.declared.value.Value.{Value}
use Rattle.value_core.specs.declared.value.Value.TheOpen as one
use Rattle.value_core.specs.declared.value.Value.TheFolds.{fold-Value}

-- the greatest of the depths, 0 where there is none
abbrev pub deepest : List ℕ → ℕ
deepest [] = 0
deepest (d ∷ ds) = max d (deepest ds)

-- one level of a value, with the depth of each part in its place
abbrev pub depth_step : one.Value-F ℕ → ℕ
depth_step one.Nil = 1
depth_step (one.Bool b) = 1
depth_step (one.Int n) = 1
depth_step (one.Str s) = 1
depth_step (one.Kw s) = 1
depth_step (one.Vector parts) = deepest parts + 1
depth_step (one.Map parts) = deepest (map (λ p. p.value) parts) + 1
depth_step (one.Ref n) = 1
depth_step (one.Actor n) = 1
depth_step (one.Future n) = 1

-- 1 for an atom and an empty collection, else one more than the deepest part
abbrev pub depth_of : Value → ℕ
depth_of = fold-Value ℕ depth_step
