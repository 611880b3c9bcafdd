-- What holds of a value exactly where it holds of the value's parts.
use Rattle.std.specs.Prelude.{ℕ, ℤ, Bool, List, All}
use Rattle.value_core.specs.declared.pair.Pair.{Pair}
use Rattle.value_core.specs.declared.value.Value.{Value}
use Rattle.value_core.specs.declared.value.Value.TheVariants as value

-- it holds of what has no name in it, and of a vector or a map exactly where it holds of each part
pub record IsStructural (P : Value → Type 0) : Type 0 where
  pub nil : P value.Nil
  pub bool : (b : Bool) → P (value.Bool b)
  pub int : (n : ℤ) → P (value.Int n)
  pub str : (text : List ℕ) → P (value.Str text)
  pub kw : (name : List ℕ) → P (value.Kw name)
  pub vector : (vs : List Value) → All P vs → P (value.Vector vs)
  pub items : (vs : List Value) → P (value.Vector vs) → All P vs
  pub map : (ps : List (Pair Value)) → All (λ p. P p.value) ps → P (value.Map ps)
  pub parts : (ps : List (Pair Value)) → P (value.Map ps) → All (λ p. P p.value) ps
