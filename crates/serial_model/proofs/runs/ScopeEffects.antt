-- The effects of a transaction keep what a state's values may have.
use Rattle.std.proofs.Common.{◌⊎◌, inl, inr, List, [], ◌∷◌, ◌++◌, sym, subst}
use Rattle.std.specs.Prelude.{All}
use Rattle.std.specs.Option.{IsSome}
use Rattle.std.proofs.lemmas.List.Elements.{All-head, All-tail, All-push, All-weaker}
use Rattle.value_core.specs.declared.value.Value.{Value}
use Rattle.value_core.specs.Within.{Within}
use Rattle.value_core.proofs.Within.{Within-weaker}
use Rattle.core_syntax.specs.Table.{Table}
use Rattle.serial_model.specs.declared.effect.Effect.{Effect}
use Rattle.serial_model.specs.declared.effect.What.{What}
use Rattle.serial_model.specs.declared.effect.What.TheVariants as what
use Rattle.value_core.specs.Named.{Name, named}
use Rattle.serial_model.specs.State.{UnitState, State}
use Rattle.serial_model.specs.Step.{takes_effect, take_effects, idle, queue_of}
use Rattle.value_core.proofs.NamedLaws.{still_named, some-here}
use Rattle.serial_model.proofs.runs.Scope.{Scope, IsSealedIn, UnitScoped, AreScoped, becoming-scoped, actor-put, queue-put, queue-sealed}
use Rattle.serial_model.proofs.tasks.TaskScope.{NoFuture, EffectWithin, IsSpawned, Spawns}

-- the state's parts and the unit
pub record StandsIn (table : Table) (S : Scope) (name : Name) (at : State × UnitState) : Type 0 where
  pub state : AreScoped table S (at.0).refs (at.0).units (at.0).actors (at.0).queues
  pub unit : UnitScoped table S name at.1

effect-scoped : (table : Table) (S : Scope) (name : Name) (s : State) (unit : UnitState) (done : What) → StandsIn table S name (s, unit) → EffectWithin table S.refs S.actors done
    → StandsIn table S name (takes_effect name s unit done)
effect-scoped table S name s unit (what.Bytes text) stands within = record { state = stands.state; unit = stands.unit }
effect-scoped table S name s unit (what.Send actor message) stands within = record {
  state = queue-put table S s.refs s.units s.actors s.queues stands.state actor name (queue_of s.queues actor name ++ message ∷ []) within.0
      (All-push (All (IsSealedIn S)) (queue_of s.queues actor name) message (queue-sealed table S s.refs s.units s.actors s.queues stands.state actor name) within.1);
  unit = stands.unit;
}
effect-scoped table S name s unit (what.Spawn actor behaviour state) stands within = record {
  state = actor-put table S s.refs s.units s.actors s.queues stands.state actor (idle behaviour state) (record { there = within.0; sealed = within.1 });
  unit = stands.unit;
}
effect-scoped table S name s unit (what.Become behaviour state) stands within = record {
  state = stands.state;
  unit = becoming-scoped table S name unit behaviour state stands.unit (record { there = within.0; sealed = within.1 });
}

-- effects within a scope keep the state in it
pub effects-scoped : (table : Table) (S : Scope) (name : Name) (effects : List Effect) (s : State) (unit : UnitState) → StandsIn table S name (s, unit)
    → All (λ e. EffectWithin table S.refs S.actors e.what) effects → StandsIn table S name (take_effects name effects s unit)
effects-scoped table S name [] s unit stands within = stands
effects-scoped table S name (effect ∷ effects) s unit stands within =
    let next = takes_effect name s unit effect.what in
    effects-scoped table S name effects next.0 next.1
    (effect-scoped table S name s unit effect.what stands (All-head (λ e. EffectWithin table S.refs S.actors e.what) effect effects within))
    (All-tail (λ e. EffectWithin table S.refs S.actors e.what) effect effects within)

effect-keeps_actor : (name : Name) (s : State) (unit : UnitState) (done : What) (actor : Name) → IsSome (named actor s.actors) → IsSome (named actor (takes_effect name s unit done).0.actors)
effect-keeps_actor name s unit (what.Bytes text) actor there = there
effect-keeps_actor name s unit (what.Send other message) actor there = there
effect-keeps_actor name s unit (what.Spawn other behaviour state) actor there = still_named actor other (idle behaviour state) s.actors there
effect-keeps_actor name s unit (what.Become behaviour state) actor there = there

effect-spawns : (name : Name) (s : State) (unit : UnitState) (done : What) (actor : Name) → Spawns actor done → IsSome (named actor (takes_effect name s unit done).0.actors)
effect-spawns name s unit (what.Bytes text) actor spawns = absurd spawns
effect-spawns name s unit (what.Send other message) actor spawns = absurd spawns
effect-spawns name s unit (what.Spawn other behaviour state) actor spawns =
    subst (λ n. IsSome (named n (takes_effect name s unit (what.Spawn other behaviour state)).0.actors)) (sym spawns) (some-here other (idle behaviour state) s.actors)
effect-spawns name s unit (what.Become behaviour state) actor spawns = absurd spawns

-- after the effects the actors are there that were there, and those that they begin
pub effects-actors : (name : Name) (effects : List Effect) (s : State) (unit : UnitState) (actor : Name) → IsSome (named actor s.actors) ⊎ IsSpawned actor effects
    → IsSome (named actor (take_effects name effects s unit).0.actors)
effects-actors name [] s unit actor (inl there) = there
effects-actors name [] s unit actor (inr none) = absurd none
effects-actors name (effect ∷ effects) s unit actor (inl there) =
    let next = takes_effect name s unit effect.what in effects-actors name effects next.0 next.1 actor (inl (effect-keeps_actor name s unit effect.what actor there))
effects-actors name (effect ∷ effects) s unit actor (inr (inl spawns)) =
    let next = takes_effect name s unit effect.what in effects-actors name effects next.0 next.1 actor (inl (effect-spawns name s unit effect.what actor spawns))
effects-actors name (effect ∷ effects) s unit actor (inr (inr spawned)) =
    let next = takes_effect name s unit effect.what in effects-actors name effects next.0 next.1 actor (inr spawned)

all-weaker : (R A Wider Broader : Name → Type 0) → ((name : Name) → R name → Wider name) → ((name : Name) → A name → Broader name) → (vs : List Value) → All (Within R A NoFuture) vs → All (Within Wider Broader NoFuture) vs
all-weaker R A Wider Broader refs actors vs all =
    All-weaker (Within R A NoFuture) (Within Wider Broader NoFuture) (λ v holds. Within-weaker R A NoFuture Wider Broader NoFuture refs actors (λ name none. none) v holds) vs all

-- with more names
pub effect-weaker : (table : Table) (R A Wider Broader : Name → Type 0) → ((name : Name) → R name → Wider name) → ((name : Name) → A name → Broader name) → (done : What)
    → EffectWithin table R A done → EffectWithin table Wider Broader done
effect-weaker table R A Wider Broader refs actors (what.Bytes text) within = tt
effect-weaker table R A Wider Broader refs actors (what.Send actor message) within = (actors actor within.0, all-weaker R A Wider Broader refs actors message within.1)
effect-weaker table R A Wider Broader refs actors (what.Spawn actor behaviour state) within = (within.0, all-weaker R A Wider Broader refs actors state within.1)
effect-weaker table R A Wider Broader refs actors (what.Become behaviour state) within = (within.0, all-weaker R A Wider Broader refs actors state within.1)
