-- A world that stands for the replay of its history.
use Rattle.std.specs.Prelude.{Contains, List, Option, Some, [], length, take, ℕ, ◌<◌, ◌∷◌, ◌≡◌, ◌≤◌}
use Rattle.value_core.specs.Named.{Name, made_by, named}
use Rattle.value_core.specs.declared.value.Value.{Value}
use Rattle.serial_model.specs.Replay.{replay}
use Rattle.serial_model.specs.State.{Setup, State}
use Rattle.serial_model.specs.Step.{value_of}
use Rattle.serial_model.specs.declared.actor_state.ActorState.{ActorState}
use Rattle.serial_model.specs.declared.entry.Entry.{Entry}
use Rattle.actor_mailbox.specs.declared.message.Message.{Message}
use Rattle.world_model.specs.StandsFor.{StandsFor}
use Rattle.world_model.specs.World.{Attempt, World}

-- The store of an attempt: the refs of the replay of so many entries. The plain tasks that it was answered with are finished.
pub record IsSnapshot (setup : Setup) (history : List Entry) (s : State) (tried : Attempt) : Type 0 where
  pub within : tried.snapshot ≤ length history
  pub state : State
  pub replays : replay setup (take tried.snapshot history) ≡ Some state
  pub refs : (r : Name) → tried.store r ≡ named r state.refs
  pub over : (f : Name) (v : Value) → Contains tried.joined (f, v) → value_of s f ≡ Some v

-- what hangs on something ranks above it: nothing hangs on itself
pub record Ranks (actors : Name → Option ActorState) (taken : Name → List Message) (attempts : Name → Option Attempt) : Type 0 where
  pub rank : Name → ℕ
  pub turns : (a : Name) (actor : ActorState) (m : Message) (on : Name) → actors a ≡ Some actor → taken a ≡ m ∷ [] → m.depends ≡ Some on → rank on < rank (made_by a actor.turns)
  pub attempts_above : (v : Name) (tried : Attempt) → attempts v ≡ Some tried → rank v < rank tried.root

-- the world stands for the replay of its history
pub record IsWorld (setup : Setup) (w : World) : Type 0 where
  pub state : State
  pub replays : replay setup w.history ≡ Some state
  pub stands : StandsFor setup w state
  pub snapshots : (u : Name) (tried : Attempt) → w.attempts u ≡ Some tried → IsSnapshot setup w.history state tried
  pub ranks : Ranks w.actors w.taken w.attempts
