-- What a structural predicate says of the outermost level of a value.
use Rattle.std.proofs.Common.{sym, subst}
use Rattle.std.specs.Prelude.{All}
use Rattle.value_core.specs.declared.pair.Pair.{Pair}
use Rattle.value_core.specs.declared.value.Value.{Value}
use Rattle.value_core.specs.declared.value.Value.TheVariants as value
use Rattle.value_core.specs.declared.value.Value.TheOpen as one
use Rattle.value_core.specs.declared.value.Value.TheViews.{out-Value, roll-Value, roll-out-Value}
use Rattle.value_core.specs.Structural.{IsStructural}

-- it holds of each part of a vector or a map, and of a ref, an actor or a future itself
abbrev pub OfLevel : (Value → Type 0) → one.Value-F Value → Type 0
OfLevel P (one.Vector vs) = All P vs
OfLevel P (one.Map ps) = All (λ (p : Pair Value). P p.value) ps
OfLevel P (one.Ref name) = P (value.Ref name)
OfLevel P (one.Actor name) = P (value.Actor name)
OfLevel P (one.Future name) = P (value.Future name)
OfLevel P _ = Unit {0}

-- what holds of a value holds of its outermost level
pub of_level : (P : Value → Type 0) → IsStructural P → (v : Value) → P v → OfLevel P (out-Value v)
of_level P structural v holds = on (out-Value v) (subst P (sym (roll-out-Value v)) holds)
  where
    on : (level : one.Value-F Value) → P (roll-Value level) → OfLevel P level
    on (one.Vector vs) holds = structural.items vs (subst P (value.rolls-Vector vs) holds)
    on (one.Map ps) holds = structural.parts ps (subst P (value.rolls-Map ps) holds)
    on (one.Ref name) holds = subst P (value.rolls-Ref name) holds
    on (one.Actor name) holds = subst P (value.rolls-Actor name) holds
    on (one.Future name) holds = subst P (value.rolls-Future name) holds
    on _ holds = tt
