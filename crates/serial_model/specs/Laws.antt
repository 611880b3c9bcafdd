-- What holds of every evaluation, and of every history that is replayed.
use Rattle.std.specs.Prelude.{◌≡◌, ℕ, suc, ◌+◌, ◌*◌, ◌≤◌, Bool, true, List, [], ◌++◌, length, None, Some}
use Rattle.std.specs.Option.{IsSome}
use mathlib.Core.List.{IsPrefix}
use Rattle.value_core.specs.Place.{Spot}
use Rattle.value_core.specs.declared.value.Value.{Value}
use Rattle.core_syntax.specs.declared.node_id.NodeId.{NodeId}
use Rattle.core_syntax.specs.Table.{Table}
use Rattle.serial_model.specs.Actors.{IsWithoutActors, NeedsNoActor}
use Rattle.serial_model.specs.Carried.{IsInner}
use Rattle.serial_model.specs.declared.actor_state.ActorState.{ActorState}
use Rattle.serial_model.specs.declared.answer.Answer.{Answer}
use Rattle.serial_model.specs.declared.end.End.TheVariants.{Done}
use Rattle.serial_model.specs.declared.entry.Entry.{Entry}
use Rattle.serial_model.specs.declared.halt.Halt.TheVariants as halt
use Rattle.serial_model.specs.declared.request.Request.{Request}
use Rattle.serial_model.specs.declared.request.Request.TheVariants as request
use Rattle.serial_model.specs.Eval.{next}
use Rattle.serial_model.specs.First.{first_of}
use Rattle.serial_model.specs.Fitting.{IsBegun}
use Rattle.value_core.specs.Named.{Name, Named, named, made_by}
use Rattle.serial_model.specs.Replay.{replay, IsOver}
use Rattle.serial_model.specs.State.{Setup, UnitState, State}
use Rattle.serial_model.specs.Step.{step, around, next_made, next_of, value_of}
use Rattle.serial_model.specs.Task.{Around, Call, Known, fresh, turns}
use Rattle.serial_model.specs.TaskTree.{Beginning, IsTaskOf}

-- a history has at most so many entries
abbrev pub AreBounded : Setup → Type 0
AreBounded setup = (entries : List Entry) (s : State) → replay setup entries ≡ Some s → length entries ≤ setup.limits.units * (setup.limits.fuel + 3)

-- each unit begins as an evaluation of the program begins
abbrev pub UnitsAreBegun : Setup → Type 0
UnitsAreBegun setup = (entries : List Entry) (s : State) → replay setup entries ≡ Some s
    → (name : Name) (unit : UnitState) → named name s.units ≡ Some unit → IsBegun setup.program unit.body unit.values

-- where one thread finds no entry, and no end is set, the state is over
abbrev pub NoneIsOver : Setup → Type 0
NoneIsOver setup = (s : State) → s.end ≡ None → first_of s ≡ None → IsOver setup s Done

-- the entry that one thread settles next is enabled
abbrev pub NoneIsStuck : Setup → Type 0
NoneIsStuck setup = (entries : List Entry) (s : State) (entry : Entry) → replay setup entries ≡ Some s → first_of s ≡ Some entry → IsSome (step setup s entry)

-- where no end is set and nothing is enabled, all units are finished and no message waits
pub record IsQuiet (s : State) : Type 0 where
  pub units : (name : Name) (unit : UnitState) → named name s.units ≡ Some unit → IsSome unit.finished
  pub queues : (actor : Name) (mail : List (Name × List (List Value))) → named actor s.queues ≡ Some mail
      → (sender : Name) (queue : List (List Value)) → named sender mail ≡ Some queue → queue ≡ []

abbrev pub NothingWaits : Setup → Type 0
NothingWaits setup = (entries : List Entry) (s : State) → replay setup entries ≡ Some s → s.end ≡ None → ((entry : Entry) → step setup s entry ≡ None) → IsQuiet s

-- each task of a unit's transaction begins as an evaluation of the program begins
abbrev pub TasksAreBegun : Setup → Type 0
TasksAreBegun setup = (entries : List Entry) (s : State) → replay setup entries ≡ Some s
    → (name : Name) (unit : UnitState) → named name s.units ≡ Some unit
    → (body : NodeId) (values : List Value) (at : Spot) → next_of setup unit ≡ halt.Ask (request.Dosync body values) at
    → (task : Beginning) → IsTaskOf (around setup s unit) (next_made name unit) body values task → IsBegun setup.program task.body task.values

-- no task is stopped by the bound on its steps: with any larger bound it comes to the same
abbrev pub StepsSuffice : Type 0
StepsSuffice = (around : Around) (levels : ℕ) (call : Call) (name : Name) (body : NodeId) (values : List Value) (view : Named Value) (known : Known) (more : ℕ)
    → turns around levels call body values view (suc around.fuel + more) (fresh name known) ≡ turns around levels call body values view (suc around.fuel) (fresh name known)

-- a unit that is finished stays so, with its value
abbrev pub ValuesStay : Setup → Type 0
ValuesStay setup = (entries : List Entry) (s t : State) (entry : Entry) → replay setup entries ≡ Some s → step setup s entry ≡ Some t
    → (name : Name) (v : Value) → value_of s name ≡ Some v → value_of t name ≡ Some v

-- the actor is busy, and the unit is its last turn
pub record IsLastTurn (actors : Named ActorState) (name actor : Name) : Type 0 where
  pub state : ActorState
  pub number : ℕ
  pub there : named actor actors ≡ Some state
  pub busy : state.busy ≡ true
  pub called : name ≡ made_by actor number
  pub last : suc number ≡ state.turns

-- a turn that is not finished is the last one of a busy actor
abbrev pub TurnsAreLast : Setup → Type 0
TurnsAreLast setup = (entries : List Entry) (s : State) → replay setup entries ≡ Some s
    → (name : Name) (unit : UnitState) (actor : Name) → named name s.units ≡ Some unit → unit.actor ≡ Some actor → unit.finished ≡ None
    → IsLastTurn s.actors name actor

-- a longer history has printed at least as much
abbrev pub BytesGrow : Setup → Type 0
BytesGrow setup = (entries more : List Entry) (s t : State) → replay setup entries ≡ Some s → replay setup (entries ++ more) ≡ Some t → IsPrefix s.bytes t.bytes

-- inside a transaction a body asks for no other one
abbrev pub NoneIsBegunInside : Type 0
NoneIsBegunInside = (table : Table) (body : NodeId) (values : List Value) (answers : List Answer) (fuel : ℕ) (asked : Request) (at : Spot)
    → next table body values true answers fuel ≡ halt.Ask asked at → IsInner asked

-- in a table without actors a body asks for none
abbrev pub NoActorIsAsked : Type 0
NoActorIsAsked = (table : Table) → IsWithoutActors table
    → (body : NodeId) (values : List Value) (inside : Bool) (answers : List Answer) (fuel : ℕ) (asked : Request) (at : Spot)
    → next table body values inside answers fuel ≡ halt.Ask asked at → NeedsNoActor asked
