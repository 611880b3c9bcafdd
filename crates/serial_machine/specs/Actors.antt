-- How actors begin and end their turns.
use Rattle.std.specs.Prelude.{◌≡◌, ℕ, suc, true, if◌then◌else◌, Option, None, Some}
use Rattle.value_core.specs.Named.{Name, Named, with_named}
use Rattle.serial_model.specs.State.{Becoming}
use Rattle.serial_model.specs.Step.{after_turn}
use Rattle.serial_model.specs.declared.actor_state.ActorState.{ActorState}

-- the actor of that name, where there is one, is idle after its turn
abbrev pub IsFreed : Name → Named ActorState → Named ActorState → Option ActorState → Option Becoming → Type 0
IsFreed name old new None becomes = new ≡ old
IsFreed name old new (Some actor) becomes = new ≡ with_named old name (after_turn becomes actor)

-- the behaviour of an actor that is idle
abbrev pub idle_of : ActorState → Option ℕ
idle_of actor = if actor.busy then None else Some actor.behaviour

-- the actor begins a turn
abbrev pub turning : ActorState → ActorState
turning actor = record actor { turns = suc actor.turns; busy = true }
