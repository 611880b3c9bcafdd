-- What is kept stands for the replay of its history.
use Rattle.std.specs.Prelude.{◌≡◌, ◌≤◌, false, true, suc, List, length, None, Some}
use Rattle.eval_step.specs.Evaluation.{Evaluation, IsOf}
use Rattle.ref_store.specs.Store.{IsAbove}
use Rattle.serial_model.specs.declared.halt.Halt.TheVariants as halt
use Rattle.serial_model.specs.declared.request.Request.TheVariants as request
use Rattle.serial_model.specs.Standing.{Start}
use Rattle.serial_model.specs.State.{Setup, UnitState}
use Rattle.serial_model.specs.Step.{next_made, next_of}
use Rattle.shared_world.specs.Ahead.{Ahead}
use Rattle.shared_world.specs.Seen.{IsSeen, live_with}
use Rattle.shared_world.specs.Shared.{Shared, finished_at, is_going, state_at}
use Rattle.task_fork_join.specs.Attempt.{Attempt}
use Rattle.task_fork_join.specs.Running.{IsRun}
use Rattle.txn_snapshot.specs.SnapshotAnswer.{snapshot_of}
use Rattle.unit_table.specs.Board.{Board, unit_at}
use Rattle.unit_table.specs.declared.unit.Unit.{Unit}
use Rattle.value_core.specs.declared.value.Value.{Value}
use Rattle.value_core.specs.Named.{Name, named}
use Rattle.value_core.specs.Place.{Spot}
use Rattle.core_syntax.specs.declared.node_id.NodeId.{NodeId}
use Rattle.core_syntax.specs.WellFormed.{IsWellFormed}
use Rattle.world_model.specs.IsWorld.{IsWorld}
use Rattle.world_model.specs.World.{World, is_ahead}

-- the machine of a unit evaluates its body, outside a transaction, with the fuel of the limits
pub record IsMachine (setup : Setup) (machine : Evaluation) : Type 0 where
  pub inside : machine.inside ≡ false
  pub fuel : machine.fuel ≡ setup.limits.fuel
  pub of : IsOf setup.program machine

-- the transaction of a unit with that body and those values
abbrev pub start_of : Setup → Name → UnitState → NodeId → List Value → Start
start_of setup u unit body values = record {
  program = setup.program;
  fuel = setup.limits.fuel;
  actor = unit.actor;
  name = next_made u unit;
  body = body;
  values = values;
}

-- An attempt is of a unit that asks for a transaction, and runs it on the refs at its snapshot.
pub record IsUnderWay (s : Shared) (u : Name) (tree : Attempt) : Type 0 where
  pub unit : UnitState
  pub there : state_at s.board u ≡ Some unit
  pub body : NodeId
  pub values : List Value
  pub at : Spot
  pub asks : next_of s.setup unit ≡ halt.Ask (request.Dosync body values) at
  pub runs : IsRun (start_of s.setup u unit body values) at (snapshot_of s.versions tree.snapshot) (finished_at s.board) tree
  pub within : tree.snapshot ≤ length s.history

-- a unit that runs ahead: it is not finished, the history gave it no more answers than it has, and it holds its begin or a request
pub record IsAheadAt (board : Board) (u : Name) (h : Ahead) : Type 0 where
  pub unit : UnitState
  pub there : state_at board u ≡ Some unit
  pub unfinished : unit.finished ≡ None
  pub within : h.answers ≤ length unit.answers
  pub holds : is_ahead (live_with (Some h) unit) ≡ true

-- What is kept is a world that stands for the replay of its history; each machine evaluates what its unit is; each attempt runs
-- the transaction of its unit; no version is newer than the history; and what runs ahead is a unit that is not finished.
pub record Stands (s : Shared) : Type 0 where
  pub formed : IsWellFormed s.setup.program
  pub world : World
  pub is_world : IsWorld s.setup world
  pub seen : IsSeen s world
  pub machines : (u : Name) (x : Unit) → unit_at s.board u ≡ Some x → IsMachine s.setup x.machine
  pub attempts : is_going s.end ≡ true → (u : Name) (tree : Attempt) → named u s.attempts ≡ Some tree → IsUnderWay s u tree
  pub numbers : IsAbove (suc (length s.history)) s.versions
  pub aheads : (u : Name) (h : Ahead) → named u s.aheads ≡ Some h → IsAheadAt s.board u h
