-- The rows that begin turns.
use Rattle.std.specs.List.{slice_get}
use Rattle.std.specs.Prelude.{List, None, Some, [], false, suc, true, ◌++◌, ◌∷◌, ◌≡◌}
use Rattle.value_core.specs.Named.{Name, made_by}
use Rattle.core_syntax.specs.declared.behaviour.Behaviour.{Behaviour}
use Rattle.serial_model.specs.State.{Setup, new_unit}
use Rattle.serial_model.specs.declared.actor_state.ActorState.{ActorState}
use Rattle.serial_model.specs.declared.entry.Entry.TheVariants.{Take}
use Rattle.actor_mailbox.specs.declared.message.Message.{Message}
use Rattle.world_model.specs.World.{LiveUnit, World, with_at}

-- an idle actor with a message at its front, and no turn whose Take is held
pub record BeginsAhead (setup : Setup) (w : World) (a u : Name) (m : Message) (ms : List Message) (actor : ActorState) (behaviour : Behaviour) : Type 0 where
  pub there : w.actors a ≡ Some actor
  pub idle : actor.busy ≡ false
  pub behaves : slice_get setup.program.behaviours actor.behaviour ≡ Some behaviour
  pub free : w.taken a ≡ []
  pub front : w.mails a ≡ m ∷ ms
  pub called : u ≡ made_by a actor.turns

-- its next turn, on that message
abbrev pub live_turn : Name → ActorState → Behaviour → Message → LiveUnit
live_turn a actor behaviour m = record {
  from = new_unit (Some a) behaviour.body (actor.state ++ m.args);
  now = new_unit (Some a) behaviour.body (actor.state ++ m.args);
  takes = Some a;
  held = [];
}

-- Held: the turn is begun, and its Take is held
abbrev pub begun_ahead : World → Name → Name → Message → List Message → LiveUnit → World
begun_ahead w a u m ms x = record w { units = with_at w.units u (Some x); taken = with_at w.taken a (m ∷ []); mails = with_at w.mails a ms }

-- a turn whose Take is held, and whose message is settled
pub record SettlesTake (setup : Setup) (w : World) (a : Name) (x : LiveUnit) (m : Message) (actor : ActorState) : Type 0 where
  pub going : w.end ≡ None
  pub actor_there : w.actors a ≡ Some actor
  pub there : w.units (made_by a actor.turns) ≡ Some x
  pub takes : x.takes ≡ Some a
  pub took : w.taken a ≡ m ∷ []
  pub definite : m.depends ≡ None

-- the actor in its turn
abbrev pub busy_with : ActorState → ActorState
busy_with actor = record actor { turns = suc actor.turns; busy = true }

-- the turn, once its Take is settled
abbrev pub begun_turn : LiveUnit → LiveUnit
begun_turn x = record x { takes = None }

-- Settled: the turn's Take, which was held
abbrev pub take_settled : World → Name → LiveUnit → Message → ActorState → World
take_settled w a x m actor = record w {
  history = w.history ++ Take a m.sender ∷ [];
  units = with_at w.units (made_by a actor.turns) (Some (begun_turn x));
  actors = with_at w.actors a (Some (busy_with actor));
  taken = with_at w.taken a [];
  made = suc w.made;
}

-- Settled: a Take by an idle actor with a settled message at its front
abbrev pub taken_now : World → Name → LiveUnit → Message → List Message → ActorState → World
taken_now w a x m ms actor = record w {
  history = w.history ++ Take a m.sender ∷ [];
  units = with_at w.units (made_by a actor.turns) (Some x);
  actors = with_at w.actors a (Some (busy_with actor));
  mails = with_at w.mails a ms;
  made = suc w.made;
}
