-- Whether a value holds a future.
use Rattle.std.specs.Prelude.{Bool, true, false}
use Rattle.std.specs.List.{list_any}
use Rattle.value_core.specs.declared.value.Value.{Value}
use Rattle.value_core.specs.declared.value.Value.TheOpen as one
use Rattle.value_core.specs.declared.value.Value.TheFolds.{fold-Value}

-- one level of a value, with the answer of each part in its place
abbrev pub future_step : one.Value-F Bool → Bool
future_step one.Nil = false
future_step (one.Bool b) = false
future_step (one.Int n) = false
future_step (one.Str s) = false
future_step (one.Kw s) = false
future_step (one.Vector parts) = list_any (λ b. b) parts
future_step (one.Map parts) = list_any (λ p. p.value) parts
future_step (one.Ref n) = false
future_step (one.Actor n) = false
future_step (one.Future n) = true

-- a future, or a vector or map with a part that holds one
abbrev pub holds_future : Value → Bool
holds_future = fold-Value Bool future_step
