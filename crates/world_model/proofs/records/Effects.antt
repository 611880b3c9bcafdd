-- What the effects of a commit do to the state, part by part.
use Rattle.std.proofs.Common.{◌≡◌, ◌∙◌, ℕ, Bool, true, false, cond, List, [], ◌∷◌, ◌++◌, append_assoc, append-nil, refl, sym, ap, subst}
use Rattle.std.specs.Prelude.{Option, Some}
use Rattle.value_core.proofs.NamedLaws.{named-with_named, same_name-equal}
use Rattle.value_core.specs.Named.{Name, Named, named, with_named, over, same_name}
use Rattle.value_core.specs.declared.value.Value.{Value}
use Rattle.serial_model.specs.State.{UnitState, State}
use Rattle.serial_model.specs.Step.{queue_of, with_queue, takes_effect, take_effects, idle}
use Rattle.serial_model.specs.declared.actor_state.ActorState.{ActorState}
use Rattle.serial_model.specs.declared.effect.Effect.{Effect}
use Rattle.serial_model.specs.declared.effect.What.TheVariants as what
use Rattle.serial_model.specs.declared.effect.What.{What}
use Rattle.serial_model.specs.Sends.{what_sends, effects_to}
use Rattle.world_model.specs.World.{with_at}
use Rattle.world_model.specs.rows.Commits.{what_actor, effects_actors, what_unit, effects_unit, what_bytes, effects_bytes, over_at}
use Rattle.world_model.proofs.records.Steps.{queue-here, queue-sender, queue-actor}

-- a map with an entry more, as a function
pub put-as : {X : Type 0} (k : Name) (x : X) (all : Named X) → (λ q. named q (with_named all k x)) ≡ with_at (λ q. named q all) k (Some x)
put-as k x all = λ i q. named-with_named q k x all i

pub over-as : (writes below : Named Value) → (λ q. named q (over writes below)) ≡ over_at writes (λ q. named q below)
over-as [] below = refl
over-as (e ∷ es) below = over-as es (with_named below e.0 e.1) ∙ ap (over_at es) (put-as e.0 e.1 below)

pub record TakesEffects (u : Name) (sends : Name → List (List Value)) (actors : Name → Option ActorState) (unit : UnitState) (bytes : List ℕ) (s : State) (done : State × UnitState) : Type 0 where
  pub to_actors : (λ q. named q done.0.actors) ≡ actors
  pub to_unit : done.1 ≡ unit
  pub to_bytes : done.0.bytes ≡ s.bytes ++ bytes
  pub own : (b : Name) → queue_of done.0.queues b u ≡ queue_of s.queues b u ++ sends b
  pub others : (b v : Name) → same_name v u ≡ false → queue_of done.0.queues b v ≡ queue_of s.queues b v

one : (u : Name) (w : What) (s : State) (unit : UnitState) → TakesEffects u (λ b. what_sends b w) (what_actor w (λ q. named q s.actors)) (what_unit w unit) (what_bytes w) s (takes_effect u s unit w)
one u (what.Bytes text) s unit = record { to_actors = refl; to_unit = refl; to_bytes = refl; own = λ b. sym (append-nil (queue_of s.queues b u)); others = λ b v e. refl }
one u (what.Spawn actor behaviour state) s unit = record {
  to_actors = put-as actor (idle behaviour state) s.actors;
  to_unit = refl;
  to_bytes = sym (append-nil s.bytes);
  own = λ b. sym (append-nil (queue_of s.queues b u));
  others = λ b v e. refl;
}
one u (what.Become behaviour state) s unit = record { to_actors = refl; to_unit = refl; to_bytes = sym (append-nil s.bytes); own = λ b. sym (append-nil (queue_of s.queues b u)); others = λ b v e. refl }
one u (what.Send to args) s unit = record {
  to_actors = refl;
  to_unit = refl;
  to_bytes = sym (append-nil s.bytes);
  own = λ b. own b (same_name b to) refl;
  others = λ b v e. others b v e (same_name b to) refl;
}
  where
    queue : List (List Value)
    queue = queue_of s.queues to u ++ args ∷ []

    own : (b : Name) (c : Bool) → same_name b to ≡ c → queue_of (with_queue s.queues to u (queue_of s.queues to u ++ args ∷ [])) b u ≡ queue_of s.queues b u ++ cond c (args ∷ []) []
    own b true e = subst (λ n. queue_of (with_queue s.queues to u (queue_of s.queues to u ++ args ∷ [])) n u ≡ queue_of s.queues n u ++ args ∷ []) (sym (same_name-equal b to e))
        (queue-here s.queues to u (queue_of s.queues to u ++ args ∷ []))
    own b false e = queue-actor s.queues to b u u (queue_of s.queues to u ++ args ∷ []) e ∙ sym (append-nil (queue_of s.queues b u))

    others : (b v : Name) → same_name v u ≡ false → (c : Bool) → same_name b to ≡ c → queue_of (with_queue s.queues to u (queue_of s.queues to u ++ args ∷ [])) b v ≡ queue_of s.queues b v
    others b v e true same = subst (λ n. queue_of (with_queue s.queues to u (queue_of s.queues to u ++ args ∷ [])) n v ≡ queue_of s.queues n v) (sym (same_name-equal b to same))
        (queue-sender s.queues to u v (queue_of s.queues to u ++ args ∷ []) e)
    others b v e false apart = queue-actor s.queues to b u v (queue_of s.queues to u ++ args ∷ []) apart

pub takes-effects : (u : Name) (effects : List Effect) (s : State) (unit : UnitState)
    → TakesEffects u (λ b. effects_to b effects) (effects_actors effects (λ q. named q s.actors)) (effects_unit effects unit) (effects_bytes effects) s (take_effects u effects s unit)
takes-effects u [] s unit = record { to_actors = refl; to_unit = refl; to_bytes = sym (append-nil s.bytes); own = λ b. sym (append-nil (queue_of s.queues b u)); others = λ b v e. refl }
takes-effects u (e ∷ es) s unit =
    let next = takes_effect u s unit e.what in
    let first = one u e.what s unit in
    let rest = takes-effects u es next.0 next.1 in
    record {
      to_actors = rest.to_actors ∙ ap (effects_actors es) first.to_actors;
      to_unit = rest.to_unit ∙ ap (effects_unit es) first.to_unit;
      to_bytes = rest.to_bytes ∙ ap (λ b. b ++ effects_bytes es) first.to_bytes ∙ append_assoc s.bytes (what_bytes e.what) (effects_bytes es);
      own = λ b. rest.own b ∙ ap (λ q. q ++ effects_to b es) (first.own b) ∙ append_assoc (queue_of s.queues b u) (what_sends b e.what) (effects_to b es);
      others = λ b v e. rest.others b v e ∙ first.others b v e;
    }
