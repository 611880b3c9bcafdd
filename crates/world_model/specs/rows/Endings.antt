-- The rows that end the run.
use Rattle.std.specs.Prelude.{List, None, Some, [], true, ℕ, ◌++◌, ◌==◌, ◌∷◌, ◌≡◌}
use Rattle.value_core.specs.Named.{Name, made_by}
use Rattle.value_core.specs.Place.{Spot}
use Rattle.value_core.specs.declared.code.Code.TheVariants as code
use Rattle.value_core.specs.declared.code.Code.{Code}
use Rattle.value_core.specs.declared.value.Value.{Value}
use Rattle.core_syntax.specs.declared.behaviour.Behaviour.{Behaviour}
use Rattle.core_syntax.specs.declared.node_id.NodeId.{NodeId}
use Rattle.serial_model.specs.State.{Setup, UnitState}
use Rattle.serial_model.specs.Step.{next_of}
use Rattle.serial_model.specs.Task as task
use Rattle.serial_model.specs.declared.actor_state.ActorState.{ActorState}
use Rattle.serial_model.specs.declared.end.End.TheVariants as end
use Rattle.serial_model.specs.declared.end.End.{End}
use Rattle.serial_model.specs.declared.entry.Entry.TheVariants.{Run, Take}
use Rattle.serial_model.specs.declared.entry.Entry.{Entry}
use Rattle.serial_model.specs.declared.halt.Halt.TheVariants as halt
use Rattle.serial_model.specs.declared.request.Request.TheVariants as request
use Rattle.serial_model.specs.declared.request.Request.{Request}
use Rattle.actor_mailbox.specs.declared.message.Message.{Message}
use Rattle.world_model.specs.World.{Attempt, AttemptEnd, LiveUnit, World}
use Rattle.world_model.specs.rows.Commits.{IsOver}
use Rattle.world_model.specs.rows.Effects.{SettlesHeld, Stands}
use Rattle.world_model.specs.rows.Turns.{BeginsAhead, SettlesTake}

-- Settled, where the run ends
abbrev pub ended_by : World → Entry → End → World
ended_by w entry end = record w { history = w.history ++ entry ∷ []; end = Some end }

-- what ends the run
pub data EndsRun (setup : Setup) (w : World) : Entry → End → Type 0 where
  fault : (u : Name) (x : LiveUnit) (failed : Code) (at : Spot) → Stands setup w u x → next_of setup x.now ≡ halt.Fault failed at → EndsRun setup w (Run u) (end.Fault failed at u)
  spent : (u : Name) (x : LiveUnit) → Stands setup w u x → next_of setup x.now ≡ halt.Spent → EndsRun setup w (Run u) (end.Spent u)
  ref_set : (u : Name) (x : LiveUnit) (r : Name) (v : Value) (at : Spot) → Stands setup w u x → next_of setup x.now ≡ halt.Ask (request.RefSet r v) at → EndsRun setup w (Run u) (end.Fault code.NoTransaction at u)
  no_turn : (u : Name) (x : LiveUnit) (behaviour : ℕ) (state : List Value) (at : Spot) → Stands setup w u x → next_of setup x.now ≡ halt.Ask (request.Become behaviour state) at → x.now.actor ≡ None
      → EndsRun setup w (Run u) (end.Fault code.NoTurn at u)
  no_self : (u : Name) (x : LiveUnit) (at : Spot) → Stands setup w u x → next_of setup x.now ≡ halt.Ask request.SelfActor at → x.now.actor ≡ None → EndsRun setup w (Run u) (end.Fault code.NoTurn at u)
  full_held_take : (a : Name) (x : LiveUnit) (m : Message) (actor : ActorState) → SettlesTake setup w a x m actor → (w.made == setup.limits.units) ≡ true → EndsRun setup w (Take a m.sender) end.UnitsSpent
  full_take : (a : Name) (m : Message) (ms : List Message) (actor : ActorState) (behaviour : Behaviour) → BeginsAhead setup w a (made_by a actor.turns) m ms actor behaviour → w.end ≡ None → m.depends ≡ None
      → (w.made == setup.limits.units) ≡ true → EndsRun setup w (Take a m.sender) end.UnitsSpent
  full_fork : (u : Name) (x : LiveUnit) (body : NodeId) (values : List Value) (at : Spot) → Stands setup w u x → next_of setup x.now ≡ halt.Ask (request.Fork body values) at → (w.made == setup.limits.units) ≡ true
      → EndsRun setup w (Run u) end.UnitsSpent
  full_held_fork : (u : Name) (x : LiveUnit) (body : NodeId) (values : List Value) (rest : List Request) (after : UnitState) → SettlesHeld w u x (request.Fork body values) rest after → (w.made == setup.limits.units) ≡ true
      → EndsRun setup w (Run u) end.UnitsSpent
  attempt_fault : (u : Name) (x : LiveUnit) (tried : Attempt) (result : AttemptEnd) (failed : Code) (place : Spot) → IsOver setup w u x tried result → result.outcome ≡ task.Fault failed place → EndsRun setup w (Run u) (end.Fault failed place u)
  attempt_spent : (u : Name) (x : LiveUnit) (tried : Attempt) (result : AttemptEnd) → IsOver setup w u x tried result → result.outcome ≡ task.Spent → EndsRun setup w (Run u) (end.Spent u)
