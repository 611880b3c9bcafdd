-- What one answer of a world asks of it, and the world after. What a row does not name stays as it is. Claims and readiness are
-- no part of this world.
use Rattle.std.specs.Prelude.{Bool, List, None, Option, Some, false, suc, true, ℕ, ◌++◌, ◌==◌, ◌≡◌}
use Rattle.value_core.specs.Named.{Name, made_by}
use Rattle.value_core.specs.Place.{Spot}
use Rattle.value_core.specs.declared.value.Value.TheVariants as value
use Rattle.value_core.specs.declared.value.Value.{Value}
use Rattle.core_syntax.specs.declared.behaviour.Behaviour.{Behaviour}
use Rattle.core_syntax.specs.declared.node_id.NodeId.{NodeId}
use Rattle.serial_model.specs.State.{Setup, UnitState}
use Rattle.serial_model.specs.Step.{after_turn, answered, becoming, idle, next_made, next_of, with_made}
use Rattle.serial_model.specs.declared.actor_state.ActorState.{ActorState}
use Rattle.serial_model.specs.declared.effect.Effect.{Effect}
use Rattle.serial_model.specs.declared.end.End.{End}
use Rattle.serial_model.specs.declared.entry.Entry.TheVariants.{Run, Take}
use Rattle.serial_model.specs.declared.entry.Entry.{Entry}
use Rattle.serial_model.specs.declared.halt.Halt.TheVariants as halt
use Rattle.serial_model.specs.declared.request.Request.TheVariants as request
use Rattle.serial_model.specs.declared.request.Request.{Request}
use Rattle.actor_mailbox.specs.declared.message.Message.{Message}
use Rattle.world_model.specs.Message.{is_tentative, settled}
use Rattle.world_model.specs.World.{Attempt, AttemptEnd, LiveUnit, World, put_last, with_at}
use Rattle.world_model.specs.rows.Attempts.{Begins, Learns, learned, local, with_attempt}
use Rattle.world_model.specs.rows.Commits.{Commits, committed}
use Rattle.world_model.specs.rows.Effects.{HoldsMore, SettlesHeld, Stands, effect_settled, fork_settled, held_more, mails_held, moved_on, new_live, print_settled, ref_settled, send_settled, spawn_settled}
use Rattle.world_model.specs.rows.Endings.{EndsRun, ended_by}
use Rattle.world_model.specs.rows.Turns.{BeginsAhead, SettlesTake, begun_ahead, begun_turn, live_turn, take_settled, taken_now}
use Rattle.world_model.specs.rows.Undone.{Aborts, reset, undone}

-- the entry that comes into the history, where one does, and the world after
pub data Gave (setup : Setup) (w : World) : Option Entry → World → Type 0 where
  takes_ahead : (a : Name) (m : Message) (ms : List Message) (actor : ActorState) (behaviour : Behaviour) → BeginsAhead setup w a (made_by a actor.turns) m ms actor behaviour → is_tentative m ≡ true
      → Gave setup w None (begun_ahead w a (made_by a actor.turns) m ms (live_turn a actor behaviour m))
  holds : (u : Name) (x : LiveUnit) (r : Request) (at : Spot) (after : UnitState) → HoldsMore setup w u x r at after → Gave setup w None (held_more w u x r after (mails_held w u r))
  begins_attempt : (u : Name) (x : LiveUnit) (tried : Attempt) → Begins setup w u x tried → Gave setup w None (with_attempt w u tried)
  learns : (u : Name) (x : LiveUnit) (tried : Attempt) (reads : List Name) (joined : List (Name × Value)) (ended : Option AttemptEnd) → Learns setup w u x tried reads joined ended
      → Gave setup w None (with_attempt w u (learned tried reads joined ended))
  goes_on : (u : Name) (tried : Attempt) (effects : List Effect) → w.attempts u ≡ Some tried → Gave setup w None (local w u tried effects)
  aborts : (u : Name) (tried : Attempt) (gone : Name → Bool) → Aborts w u tried gone → Gave setup w None (undone w gone)
  settles_take : (a : Name) (x : LiveUnit) (m : Message) (actor : ActorState) → SettlesTake setup w a x m actor → (w.made == setup.limits.units) ≡ false → Gave setup w (Some (Take a m.sender)) (take_settled w a x m actor)
  takes : (a : Name) (m : Message) (ms : List Message) (actor : ActorState) (behaviour : Behaviour) → BeginsAhead setup w a (made_by a actor.turns) m ms actor behaviour → w.end ≡ None → m.depends ≡ None
      → (w.made == setup.limits.units) ≡ false → Gave setup w (Some (Take a m.sender)) (taken_now w a (begun_turn (live_turn a actor behaviour m)) m ms actor)
  settles_print : (u : Name) (x : LiveUnit) (text : List ℕ) (rest : List Request) (after : UnitState) → SettlesHeld w u x (request.Print text) rest after → Gave setup w (Some (Run u)) (print_settled w u x rest after text)
  settles_send : (u : Name) (x : LiveUnit) (to : Name) (args : List Value) (rest : List Request) (after : UnitState) → SettlesHeld w u x (request.Send to args) rest after
      → Gave setup w (Some (Run u)) (send_settled w u x rest after to args)
  settles_ref : (u : Name) (x : LiveUnit) (v : Value) (rest : List Request) (after : UnitState) → SettlesHeld w u x (request.NewRef v) rest after → Gave setup w (Some (Run u)) (ref_settled w u x rest after v)
  settles_spawn : (u : Name) (x : LiveUnit) (behaviour : ℕ) (state : List Value) (rest : List Request) (after : UnitState) → SettlesHeld w u x (request.Spawn behaviour state) rest after
      → Gave setup w (Some (Run u)) (spawn_settled w u x rest after behaviour state)
  settles_fork : (u : Name) (x : LiveUnit) (body : NodeId) (values : List Value) (rest : List Request) (after : UnitState) → (w.made == setup.limits.units) ≡ false → SettlesHeld w u x (request.Fork body values) rest after
      → Gave setup w (Some (Run u)) (fork_settled w u x rest after body values)
  settles_become : (u : Name) (x : LiveUnit) (behaviour : ℕ) (state : List Value) (rest : List Request) (after : UnitState) → SettlesHeld w u x (request.Become behaviour state) rest after
      → Gave setup w (Some (Run u)) (effect_settled w u x rest after)
  settles_self : (u : Name) (x : LiveUnit) (rest : List Request) (after : UnitState) → SettlesHeld w u x request.SelfActor rest after → Gave setup w (Some (Run u)) (effect_settled w u x rest after)
  commits : (u : Name) (x : LiveUnit) (tried : Attempt) (result : AttemptEnd) (v : Value) → Commits setup w u x tried result v → Gave setup w (Some (Run u)) (committed w u x tried result v)
  derefs : (u : Name) (x : LiveUnit) (ref : Name) (at : Spot) (v : Value) → Stands setup w u x → next_of setup x.now ≡ halt.Ask (request.Deref ref) at → w.refs ref ≡ Some v → Gave setup w (Some (Run u)) (moved_on w u (answered x.now v))
  joins : (u : Name) (x : LiveUnit) (f : Name) (y : LiveUnit) (at : Spot) (v : Value) → Stands setup w u x → next_of setup x.now ≡ halt.Ask (request.Join f) at → w.units f ≡ Some y → y.takes ≡ None → y.from.finished ≡ Some v
      → Gave setup w (Some (Run u)) (moved_on w u (answered x.now v))
  prints : (u : Name) (x : LiveUnit) (text : List ℕ) (at : Spot) → Stands setup w u x → next_of setup x.now ≡ halt.Ask (request.Print text) at
      → Gave setup w (Some (Run u)) (moved_on (record w { bytes = w.bytes ++ text }) u (answered x.now value.Nil))
  makes_ref : (u : Name) (x : LiveUnit) (v : Value) (at : Spot) → Stands setup w u x → next_of setup x.now ≡ halt.Ask (request.NewRef v) at
      → Gave setup w (Some (Run u)) (moved_on (record w { refs = with_at w.refs (next_made u x.now) (Some v) }) u (answered (with_made x.now) (value.Ref (next_made u x.now))))
  sends : (u : Name) (x : LiveUnit) (to : Name) (args : List Value) (at : Spot) → Stands setup w u x → next_of setup x.now ≡ halt.Ask (request.Send to args) at
      → Gave setup w (Some (Run u)) (moved_on (record w { mails = put_last w to (settled u args) }) u (answered x.now value.Nil))
  spawns : (u : Name) (x : LiveUnit) (behaviour : ℕ) (state : List Value) (at : Spot) → Stands setup w u x → next_of setup x.now ≡ halt.Ask (request.Spawn behaviour state) at
      → Gave setup w (Some (Run u)) (moved_on (record w { actors = with_at w.actors (next_made u x.now) (Some (idle behaviour state)) }) u (answered (with_made x.now) (value.Actor (next_made u x.now))))
  forks : (u : Name) (x : LiveUnit) (body : NodeId) (values : List Value) (at : Spot) → Stands setup w u x → next_of setup x.now ≡ halt.Ask (request.Fork body values) at → (w.made == setup.limits.units) ≡ false
      → Gave setup w (Some (Run u)) (moved_on (record w { units = with_at w.units (next_made u x.now) (Some (new_live body values)); made = suc w.made }) u (answered (with_made x.now) (value.Future (next_made u x.now))))
  becomes : (u : Name) (x : LiveUnit) (behaviour : ℕ) (state : List Value) (at : Spot) (actor : Name) → Stands setup w u x → next_of setup x.now ≡ halt.Ask (request.Become behaviour state) at → x.now.actor ≡ Some actor
      → Gave setup w (Some (Run u)) (moved_on w u (answered (becoming x.now behaviour state) value.Nil))
  selves : (u : Name) (x : LiveUnit) (at : Spot) (actor : Name) → Stands setup w u x → next_of setup x.now ≡ halt.Ask request.SelfActor at → x.now.actor ≡ Some actor
      → Gave setup w (Some (Run u)) (moved_on w u (answered x.now (value.Actor actor)))
  finishes : (u : Name) (x : LiveUnit) (v : Value) → Stands setup w u x → next_of setup x.now ≡ halt.Value v → x.now.actor ≡ None → Gave setup w (Some (Run u)) (moved_on w u (record x.now { finished = Some v }))
  finishes_turn : (u a : Name) (x : LiveUnit) (actor : ActorState) (v : Value) → Stands setup w u x → next_of setup x.now ≡ halt.Value v → x.now.actor ≡ Some a → w.actors a ≡ Some actor
      → Gave setup w (Some (Run u)) (record (moved_on w u (record x.now { finished = Some v })) { actors = with_at w.actors a (Some (after_turn x.now.becomes actor)) })
  ends : (entry : Entry) (end : End) → EndsRun setup w entry end → Gave setup w (Some entry) (ended_by w entry end)
  resets : Gave setup w None (reset w)
