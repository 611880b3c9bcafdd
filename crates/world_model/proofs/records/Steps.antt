-- What an entry does to the state, where it is enabled.
use Rattle.std.proofs.Common.{◌≡◌, ◌∙◌, ◌==◌, Bool, true, false, cond, List, [], refl, sym, ap, subst}
use Rattle.std.specs.Option.{option_and_then, unwrap_or}
use Rattle.std.specs.Prelude.{Option, None, Some}
use Rattle.value_core.proofs.NamedLaws.{named-with_named, named-here, same_name-equal}
use Rattle.value_core.specs.Named.{Name, Named, named, with_named, same_name}
use Rattle.value_core.specs.declared.value.Value.{Value}
use Rattle.core_syntax.specs.declared.behaviour.Behaviour.{Behaviour}
use Rattle.serial_model.proofs.runs.StepCases.{IsRunning, IsTaking, begun}
use Rattle.serial_model.specs.State.{Setup, UnitState, State, Queues}
use Rattle.serial_model.specs.Step.{step, queue_of, with_queue, next_of, goes_on, ended}
use Rattle.serial_model.specs.declared.actor_state.ActorState.{ActorState}
use Rattle.serial_model.specs.declared.end.End.TheVariants as end
use Rattle.serial_model.specs.declared.entry.Entry.TheVariants.{Run, Take}
use Rattle.serial_model.specs.declared.entry.Entry.{Entry}
use Rattle.world_model.specs.StandsFor.{StandsFor}
use Rattle.world_model.specs.World.{World}

-- the entry is enabled, and the world after it stands for the state after it
pub record Settles (setup : Setup) (s : State) (entry : Entry) (w : World) : Type 0 where
  pub after : State
  pub steps : step setup s entry ≡ Some after
  pub stands : StandsFor setup w after

pub step-takes : (setup : Setup) (s : State) (name sender : Name) (actor : ActorState) (behaviour : Behaviour) (message : List Value) (messages : List (List Value))
    → IsTaking setup s name sender actor behaviour message messages → (s.made == setup.limits.units) ≡ false → step setup s (Take name sender) ≡ Some (begun s name sender actor behaviour message messages)
unfolding step
step-takes setup s name sender actor behaviour message messages t room = rw (t.going, t.there, t.idle, t.waits, t.behaves, room) refl

pub step-takes-full : (setup : Setup) (s : State) (name sender : Name) (actor : ActorState) (behaviour : Behaviour) (message : List Value) (messages : List (List Value))
    → IsTaking setup s name sender actor behaviour message messages → (s.made == setup.limits.units) ≡ true → step setup s (Take name sender) ≡ Some (ended s end.UnitsSpent)
unfolding step
step-takes-full setup s name sender actor behaviour message messages t full = rw (t.going, t.there, t.idle, t.waits, t.behaves, full) refl

pub step-runs : (setup : Setup) (s : State) (name : Name) (unit : UnitState) → IsRunning s name unit → step setup s (Run name) ≡ goes_on setup s name unit (next_of setup unit)
unfolding step
step-runs setup s name unit r = rw (r.going, r.there, r.unfinished) refl

-- ---- queues
pub queue-here : (queues : Queues) (actor sender : Name) (messages : List (List Value)) → queue_of (with_queue queues actor sender messages) actor sender ≡ messages
queue-here queues actor sender messages =
    ap (λ found. unwrap_or (option_and_then (named sender) found) []) (named-here actor (with_named (unwrap_or (named actor queues) []) sender messages) queues)
    ∙ ap (λ found. unwrap_or found []) (named-here sender messages (unwrap_or (named actor queues) []))

pub queue-sender : (queues : Queues) (actor sender other : Name) (messages : List (List Value)) → same_name other sender ≡ false → queue_of (with_queue queues actor sender messages) actor other ≡ queue_of queues actor other
queue-sender queues actor sender other messages not =
    ap (λ found. unwrap_or (option_and_then (named other) found) []) (named-here actor (with_named (unwrap_or (named actor queues) []) sender messages) queues)
    ∙ ap (λ found. unwrap_or found []) (named-with_named other sender messages (unwrap_or (named actor queues) []) ∙ ap (λ b. cond b (Some messages) (named other (unwrap_or (named actor queues) []))) not)
    ∙ on (named actor queues)
  where
    on : (mail : Option (Named (List (List Value)))) → unwrap_or (named other (unwrap_or mail [])) [] ≡ unwrap_or (option_and_then (named other) mail) []
    on None = refl
    on (Some mail) = refl

pub queue-actor : (queues : Queues) (actor other sender v : Name) (messages : List (List Value)) → same_name other actor ≡ false → queue_of (with_queue queues actor sender messages) other v ≡ queue_of queues other v
queue-actor queues actor other sender v messages not =
    let mail = with_named (unwrap_or (named actor queues) []) sender messages in
    ap (λ found. unwrap_or (option_and_then (named v) found) []) (named-with_named other actor mail queues ∙ ap (λ b. cond b (Some mail) (named other queues)) not)

-- the queue after its messages are set, at any actor and sender
pub queue-set : (queues : Queues) (actor sender : Name) (messages : List (List Value)) (P : Name → Name → List (List Value) → Type 0) → P actor sender messages
    → ((v : Name) → same_name v sender ≡ false → P actor v (queue_of queues actor v)) → ((b v : Name) → same_name b actor ≡ false → P b v (queue_of queues b v))
    → (b v : Name) → P b v (queue_of (with_queue queues actor sender messages) b v)
queue-set queues actor sender messages P here others elsewhere b v = on (same_name b actor) refl
  where
    at_actor : (c : Bool) → same_name v sender ≡ c → P actor v (queue_of (with_queue queues actor sender messages) actor v)
    at_actor true e = subst (λ n. P actor n (queue_of (with_queue queues actor sender messages) actor n)) (sym (same_name-equal v sender e)) (subst (P actor sender) (sym (queue-here queues actor sender messages)) here)
    at_actor false e = subst (P actor v) (sym (queue-sender queues actor sender v messages e)) (others v e)

    on : (c : Bool) → same_name b actor ≡ c → P b v (queue_of (with_queue queues actor sender messages) b v)
    on true e = subst (λ n. P n v (queue_of (with_queue queues actor sender messages) n v)) (sym (same_name-equal b actor e)) (at_actor (same_name v sender) refl)
    on false e = subst (P b v) (sym (queue-actor queues actor b sender v messages e)) (elsewhere b v e)
