-- What a commit spawns is new, and every other actor stays as it was.
use Rattle.std.proofs.Common.{◌≡◌, ◌∙◌, ℕ, ◌<◌, List, [], ◌∷◌, ◌++◌, append_assoc, inl, inr, refl, sym, ap, subst, arith}
use Rattle.std.specs.Prelude.{Option, Some}
use Rattle.value_core.specs.Place.{Spot}
use Rattle.value_core.specs.declared.value.Value.{Value}
use Rattle.core_syntax.specs.WellFormed.{IsWellFormed}
use Rattle.core_syntax.specs.declared.node_id.NodeId.{NodeId}
use Rattle.serial_model.specs.declared.actor_state.ActorState.{ActorState}
use Rattle.serial_model.specs.declared.effect.Effect.{Effect}
use Rattle.serial_model.specs.declared.effect.What.{What}
use Rattle.serial_model.specs.declared.effect.What.TheVariants as what
use Rattle.serial_model.specs.declared.halt.Halt.TheVariants as halt
use Rattle.serial_model.specs.declared.request.Request.TheVariants as request
use Rattle.value_core.specs.Named.{Name, named}
use Rattle.serial_model.specs.State.{Setup, UnitState, State}
use Rattle.serial_model.specs.Step.{around, idle, next_made, next_of, take_effects, takes_effect}
use Rattle.serial_model.specs.Task.{Result, root_task}
use Rattle.serial_model.proofs.runs.Fresh.{OfActor, OfUnit}
use Rattle.value_core.proofs.NamedLaws.{named-other}
use Rattle.serial_model.proofs.runs.Scoped.{transaction-kept}
use Rattle.serial_model.proofs.runs.StepCases.{IsRunning}
use Rattle.serial_model.proofs.runs.Stuck.{IsSound}
use Rattle.serial_model.proofs.tasks.TaskKeeps.{transactions-keep}
use Rattle.serial_model.proofs.tasks.TaskScope.{IsSpawned, Spawns}

one_stays : (name : Name) (s : State) (unit : UnitState) (done : What) (actor : Name) → ¬ (Spawns actor done)
    → named actor (takes_effect name s unit done).0.actors ≡ named actor s.actors
one_stays name s unit (what.Bytes text) actor other = refl
one_stays name s unit (what.Send to message) actor other = refl
one_stays name s unit (what.Become behaviour state) actor other = refl
one_stays name s unit (what.Spawn spawned behaviour state) actor other = named-other actor spawned (idle behaviour state) s.actors other

-- an actor that the effects do not spawn is as it was
pub others-stay : (name : Name) (effects : List Effect) (s : State) (unit : UnitState) (actor : Name) → ¬ (IsSpawned actor effects)
    → named actor (take_effects name effects s unit).0.actors ≡ named actor s.actors
others-stay name [] s unit actor other = refl
others-stay name (effect ∷ effects) s unit actor other =
    let next = takes_effect name s unit effect.what in
    others-stay name effects next.0 next.1 actor (λ is. other (inr is)) ∙ one_stays name s unit effect.what actor (λ is. other (inl is))

-- an actor that is there is not spawned by a transaction
pub not-spawned : (setup : Setup) → IsWellFormed setup.program → (s : State) → IsSound setup s → (name : Name) (unit : UnitState) → IsRunning s name unit
    → (body : NodeId) (values : List Value) (at : Spot) → next_of setup unit ≡ halt.Ask (request.Dosync body values) at
    → (result : Result) → root_task (around setup s unit) (next_made name unit) body values ≡ result
    → (a : Name) (actor : ActorState) → named a s.actors ≡ Some actor → ¬ (IsSpawned a result.log.effects)
not-spawned setup formed s sound name unit running body values at asks result is a actor there spawned =
    let kept = transaction-kept setup formed s sound.scoped name unit running transactions-keep body values at asks in
    let under = kept.below a (subst (λ (r : Result). IsSpawned a r.log.effects) (sym is) spawned) in
    let fewer : unit.made < unit.made = sound.made.fresh name unit.made a actor.turns unit.made under.0 (OfUnit unit running.there refl) (OfActor actor there refl)
    (under.1 ∙ append_assoc name (unit.made ∷ []) under.0) in
    omega arith
