-- What a commit spawns is new.
use Rattle.std.proofs.Common.{◌≡◌, ◌∙◌, inl, inr, Bool, true, false, cond, List, [], ◌∷◌, refl}
use Rattle.std.specs.Prelude.{Option, Some}
use Rattle.value_core.proofs.NamedLaws.{same_name-equal}
use Rattle.value_core.specs.Named.{Name, same_name}
use Rattle.serial_model.proofs.tasks.TaskScope.{IsSpawned, Spawns}
use Rattle.serial_model.specs.Step.{idle}
use Rattle.serial_model.specs.declared.actor_state.ActorState.{ActorState}
use Rattle.serial_model.specs.declared.effect.Effect.{Effect}
use Rattle.serial_model.specs.declared.effect.What.TheVariants as what
use Rattle.serial_model.specs.declared.effect.What.{What}
use Rattle.world_model.specs.rows.Commits.{what_actor, effects_actors}

-- an actor that the effects do not spawn is as it was
one-stays : (w : What) (f : Name → Option ActorState) (b : Name) → ¬ (Spawns b w) → what_actor w f b ≡ f b
one-stays (what.Bytes text) f b not = refl
one-stays (what.Send to args) f b not = refl
one-stays (what.Become behaviour state) f b not = refl
one-stays (what.Spawn actor behaviour state) f b not = on (same_name b actor) refl
  where
    on : (c : Bool) → same_name b actor ≡ c → cond c (Some (idle behaviour state)) (f b) ≡ f b
    on true e = absurd (not (same_name-equal b actor e))
    on false e = refl

pub spawned-stays : (effects : List Effect) (f : Name → Option ActorState) (b : Name) → ¬ (IsSpawned b effects) → effects_actors effects f b ≡ f b
spawned-stays [] f b not = refl
spawned-stays (e ∷ es) f b not = spawned-stays es (what_actor e.what f) b (λ is. not (inr is)) ∙ one-stays e.what f b (λ is. not (inl is))
