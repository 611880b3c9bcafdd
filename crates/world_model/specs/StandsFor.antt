-- What a world stands for: each of its records against the state that the history replays to.
use Rattle.std.specs.List.{slice_get}
use Rattle.std.specs.Prelude.{Contains, List, None, Option, Some, [], false, map, ◌++◌, ◌∷◌, ◌≡◌}
use Rattle.value_core.specs.Named.{Name, made_by, named}
use Rattle.value_core.specs.declared.value.Value.{Value}
use Rattle.core_syntax.specs.declared.behaviour.Behaviour.{Behaviour}
use Rattle.serial_model.specs.State.{Setup, State, UnitState, new_unit}
use Rattle.serial_model.specs.Step.{next_made, next_of, queue_of}
use Rattle.serial_model.specs.Task as task
use Rattle.serial_model.specs.Task.{Around, Result, transaction}
use Rattle.serial_model.specs.declared.actor_state.ActorState.{ActorState}
use Rattle.serial_model.specs.declared.effect.Effect.{Effect}
use Rattle.serial_model.specs.declared.halt.Halt.TheVariants as halt
use Rattle.serial_model.specs.declared.request.Request.TheVariants as request
use Rattle.world_model.specs.Ahead.{RunsAhead}
use Rattle.actor_mailbox.specs.declared.message.Message.{Message}
use Rattle.actor_mailbox.specs.Messages.{from}
use Rattle.world_model.specs.Message.{settled}
use Rattle.world_model.specs.World.{Attempt, AttemptEnd, LiveUnit, World, line, sends}

-- A turn whose Take is held: its actor is idle in the state, and it has the name of the next turn, and started from the actor's
-- behaviour and state and from its message.
pub record IsBegunTurn (setup : Setup) (actors : Name → Option ActorState) (taken : Name → List Message) (u : Name) (x : LiveUnit) (a : Name) : Type 0 where
  pub actor : ActorState
  pub behaviour : Behaviour
  pub message : Message
  pub there : actors a ≡ Some actor
  pub idle : actor.busy ≡ false
  pub behaves : slice_get setup.program.behaviours actor.behaviour ≡ Some behaviour
  pub called : u ≡ made_by a actor.turns
  pub took : taken a ≡ message ∷ []
  pub starts : x.from ≡ new_unit (Some a) behaviour.body (actor.state ++ message.args)
  pub runs : RunsAhead setup u x.from x.held x.now

-- A unit, by whether its Take is held, and what the state has under its name. The history knows nothing of a turn whose Take
-- is held; every other unit is the state's, and its machine stands behind the effects that it holds.
abbrev pub LiveStands : Setup → (Name → Option ActorState) → (Name → List Message) → Name → LiveUnit → Option Name → Option UnitState → Type 0
LiveStands setup actors taken u x None None = ⊥
LiveStands setup actors taken u x None (Some unit) = (unit ≡ x.from) × RunsAhead setup u x.from x.held x.now
LiveStands setup actors taken u x (Some a) None = IsBegunTurn setup actors taken u x a
LiveStands setup actors taken u x (Some a) (Some unit) = ⊥

-- each unit, and nothing else, is in the state
abbrev pub UnitStands : Setup → (Name → Option ActorState) → (Name → List Message) → Name → Option LiveUnit → Option UnitState → Type 0
UnitStands setup actors taken u None None = Unit {0}
UnitStands setup actors taken u None (Some unit) = ⊥
UnitStands setup actors taken u (Some x) found = LiveStands setup actors taken u x x.takes found

-- The queue of a sender to an actor: the settled messages of the line, in order. The unsettled ones come after them, in the order of
-- the sends, and those that are kept are the last.
pub record QueueStands (u : Name) (messages pending : List Message) (queue : List (List Value)) : Type 0 where
  pub put : List Message
  pub kept : List Message
  pub whole : pending ≡ put ++ kept
  pub stands : from u messages ≡ map (settled u) queue ++ put

-- what a transaction is run with agrees with what an attempt has learned
pub record Agrees (setup : Setup) (turn : Option Name) (tried : Attempt) (around : Around) : Type 0 where
  pub program : around.program ≡ setup.program
  pub fuel : around.fuel ≡ setup.limits.fuel
  pub actor : around.actor ≡ turn
  pub reads : (r : Name) → Contains tried.reads r → around.store r ≡ tried.store r
  pub joined : (f : Name) (v : Value) → Contains tried.joined (f, v) → around.finished f ≡ Some v

-- the transaction comes to that end, and where it is a value, to these effects and writes
pub record ComesTo (result : Result) (effects : List Effect) (end : AttemptEnd) : Type 0 where
  pub outcome : result.outcome ≡ end.outcome
  pub writes : (v : Value) → end.outcome ≡ task.Value v → result.log.writes ≡ end.writes
  pub effects_same : (v : Value) → end.outcome ≡ task.Value v → result.log.effects ≡ effects

-- the end of an attempt: wherever what it has learned is so, its transaction ends so
abbrev pub IsEnd : Setup → Option Name → Attempt → Option AttemptEnd → Type 0
IsEnd setup actor tried None = Unit {0}
IsEnd setup actor tried (Some end) = (around : Around) → Agrees setup actor tried around → ComesTo (transaction around tried.root tried.at tried.body tried.values) tried.effects end

-- the unit stands at the dosync of its attempt, whose root is the next thing that it makes
pub record IsAttempt (setup : Setup) (u : Name) (x : LiveUnit) (tried : Attempt) : Type 0 where
  pub asks : next_of setup x.now ≡ halt.Ask (request.Dosync tried.body tried.values) tried.at
  pub root : tried.root ≡ next_made u x.now
  pub unfinished : x.now.finished ≡ None
  pub end : IsEnd setup x.now.actor tried tried.ended

-- only a unit has an attempt
abbrev pub AttemptStands : Setup → Name → Option LiveUnit → Option Attempt → Type 0
AttemptStands setup u live None = Unit {0}
AttemptStands setup u None (Some tried) = ⊥
AttemptStands setup u (Some x) (Some tried) = IsAttempt setup u x tried

-- a message that is taken is that of a turn whose Take is held
pub record HasBegun (actors : Name → Option ActorState) (units : Name → Option LiveUnit) (a : Name) : Type 0 where
  pub actor : ActorState
  pub turn : LiveUnit
  pub there : actors a ≡ Some actor
  pub begun : units (made_by a actor.turns) ≡ Some turn
  pub takes : turn.takes ≡ Some a

abbrev pub TakenStands : (Name → Option ActorState) → (Name → Option LiveUnit) → Name → List Message → Type 0
TakenStands actors units a [] = Unit {0}
TakenStands actors units a (m ∷ ms) = HasBegun actors units a

-- the world stands for the state
pub record StandsFor (setup : Setup) (w : World) (s : State) : Type 0 where
  pub refs : (r : Name) → w.refs r ≡ named r s.refs
  pub units : (u : Name) → UnitStands setup w.actors w.taken u (w.units u) (named u s.units)
  pub actors : (a : Name) → w.actors a ≡ named a s.actors
  pub queues : (a u : Name) → QueueStands u (line w a) (sends w u a) (queue_of s.queues a u)
  pub attempts : (u : Name) → AttemptStands setup u (w.units u) (w.attempts u)
  pub bytes : w.bytes ≡ s.bytes
  pub made : w.made ≡ s.made
  pub end : w.end ≡ s.end
  pub turns : (a : Name) → TakenStands w.actors w.units a (w.taken a)
