-- The shared world as plain data: what the workers share, and one call of one of them changes.
use Rattle.std.specs.Prelude.{Bool, List, None, Option, Some, [], cond, drop, false, length, map, true, ℕ, ◌++◌, ◌∷◌}
use Rattle.value_core.specs.Named.{Name, Named, same_name}
use Rattle.value_core.specs.Place.{Spot}
use Rattle.value_core.specs.declared.value.Value.{Value}
use Rattle.core_syntax.specs.declared.node_id.NodeId.{NodeId}
use Rattle.serial_model.specs.State.{Setup, UnitState, main_name, new_unit}
use Rattle.serial_model.specs.Task.{Outcome}
use Rattle.serial_model.specs.declared.actor_state.ActorState.{ActorState}
use Rattle.serial_model.specs.declared.effect.Effect.{Effect}
use Rattle.serial_model.specs.declared.end.End.{End}
use Rattle.serial_model.specs.declared.entry.Entry.{Entry}
use Rattle.serial_model.specs.declared.request.Request.{Request}
use Rattle.actor_mailbox.specs.declared.message.Message.{Message}
use Rattle.serial_model.specs.Sends.{effects_to, sends_to}
use Rattle.world_model.specs.Message.{tentative, unsettled}

-- A unit: how the history left it, or how its turn starts; its actor, while its turn's Take is held; the effects that it holds
-- behind the Take; and where its machine stands, with the answers that it was given ahead.
pub record LiveUnit : Type 0 where
  pub from : UnitState
  pub now : UnitState
  pub takes : Option Name
  pub held : List Request

-- it runs ahead of the history: its Take is held, or an effect is
abbrev pub is_ahead : LiveUnit → Bool
is_ahead x = is_of x.takes x.held
  where
    is_of : Option Name → List Request → Bool
    is_of None [] = false
    is_of _ _ = true

-- a unit that stands where the history left it
abbrev pub still : UnitState → LiveUnit
still unit = record { from = unit; now = unit; takes = None; held = [] }

-- how the root of an attempt came to its end, and what it has written
pub record AttemptEnd : Type 0 where
  pub outcome : Outcome
  pub writes : Named Value

-- An attempt at a unit's transaction: its root, where its dosync stands and what it runs; the number of entries at its
-- snapshot, and the refs there; those that it read, and the values of the plain tasks that it was answered with; what its
-- root has done; and how that ended.
pub record Attempt : Type 0 where
  pub root : Name
  pub at : Spot
  pub body : NodeId
  pub values : List Value
  pub snapshot : ℕ
  pub store : Name → Option Value
  pub reads : List Name
  pub joined : List (Name × Value)
  pub effects : List Effect
  pub ended : Option AttemptEnd

-- Everything by name: refs, units, actors; of an actor the message of its turn whose Take is held, and the messages that wait,
-- in order of arrival; and of a unit its attempt.
pub record World : Type 0 where
  pub history : List Entry
  pub refs : Name → Option Value
  pub units : Name → Option LiveUnit
  pub actors : Name → Option ActorState
  pub taken : Name → List Message
  pub mails : Name → List Message
  pub attempts : Name → Option Attempt
  pub bytes : List ℕ
  pub made : ℕ
  pub end : Option End

abbrev pub is_some : {X : Type 0} → Option X → Bool
is_some None = false
is_some (Some x) = true

abbrev pub is_empty : List Message → Bool
is_empty [] = true
is_empty (m ∷ ms) = false

-- with this under that name
abbrev pub with_at : {X : Type 0} → (Name → X) → Name → X → Name → X
with_at f name x q = cond (same_name q name) x (f q)

-- what an actor is still to answer for: the message of the turn whose Take is held, and its mail
abbrev pub line : World → Name → List Message
line w actor = w.taken actor ++ w.mails actor

-- the sends to an actor that a unit holds
abbrev pub held_sends : Name → Name → Option LiveUnit → List Message
held_sends u actor None = []
held_sends u actor (Some x) = map (tentative u u) (sends_to actor x.held)

-- those of its attempt
abbrev pub attempt_sends : Name → Name → Option Attempt → List Message
attempt_sends u actor None = []
attempt_sends u actor (Some tried) = map (tentative u tried.root) (effects_to actor tried.effects)

-- what a unit has sent to an actor and is not settled
abbrev pub sends : World → Name → Name → List Message
sends w u actor = held_sends u actor (w.units u) ++ attempt_sends u actor (w.attempts u)

-- those of them that no mailbox has: they are the last
abbrev pub kept_sends : World → Name → Name → List Message
kept_sends w u actor = drop (length (unsettled u (line w actor))) (sends w u actor)

-- the mailboxes, with a message behind those of that actor
abbrev pub put_last : World → Name → Message → Name → List Message
put_last w to m = with_at w.mails to (w.mails to ++ m ∷ [])

-- A send is put at once where its receiver is there and no earlier send of its sender to it is kept. Else it is kept.
abbrev pub put_or_kept : World → Name → Name → Message → Name → List Message
put_or_kept w u to m = cond (is_some (w.actors to)) (cond (is_empty (kept_sends w u to)) (put_last w to m) w.mails) w.mails

-- the world with main alone
abbrev pub opening_world : Setup → World
opening_world setup = record {
  history = [];
  refs = λ r. None;
  units = with_at (λ u. None) main_name (Some (still (new_unit None setup.program.main [])));
  actors = λ a. None;
  taken = λ a. [];
  mails = λ a. [];
  attempts = λ u. None;
  bytes = [];
  made = 1;
  end = None;
}
