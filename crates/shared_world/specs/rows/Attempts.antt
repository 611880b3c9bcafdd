-- How an attempt begins and is undone.
use Rattle.std.specs.Prelude.{◌≡◌, ◌≤◌, ℕ, List, length, None, Some, cond, is_some}
use Rattle.std.specs.List.{Contains}
use Rattle.core_syntax.specs.declared.node_id.NodeId.{NodeId}
use Rattle.eval_step.specs.Evaluation.{Evaluation}
use Rattle.ref_store.specs.declared.version.Version.{Version}
use Rattle.ref_store.specs.Store.{ArePruned}
use Rattle.serial_model.specs.Step.{next_made}
use Rattle.shared_world.specs.declared.given.Given.{Given}
use Rattle.shared_world.specs.declared.given.Given.TheVariants as given
use Rattle.shared_world.specs.rows.Pieces.{IsMarkedUnit, task_gone}
use Rattle.shared_world.specs.Shared.{actor_of, Shared, unit_state}
use Rattle.shared_world.specs.Stands.{start_of}
use Rattle.task_fork_join.specs.Attempt.{Attempt, IsNew, IsRootLog}
use Rattle.task_fork_join.specs.Running.{IsRootMachine}
use Rattle.txn_snapshot.specs.SnapshotTask.{SnapshotTask}
use Rattle.unit_table.specs.Board.{Board, IsPutAt, piece_at}
use Rattle.unit_table.specs.declared.mark.Mark.{Mark}
use Rattle.unit_table.specs.declared.mark.Mark.TheVariants as mark
use Rattle.unit_table.specs.declared.mark.WaitOn.TheVariants as wait
use Rattle.unit_table.specs.declared.mark.Work.TheVariants as work
use Rattle.unit_table.specs.declared.piece.Piece.TheVariants as piece
use Rattle.unit_table.specs.declared.unit.Unit.{Unit}
use Rattle.value_core.specs.declared.value.Value.{Value}
use Rattle.value_core.specs.Named.{Name, Named, named, same_name, with_named, Rises}
use Rattle.value_core.specs.Place.{Spot}

-- an attempt of its root alone, on the refs as they are now, of the transaction of that unit
pub record IsFreshAttempt (old : Shared) (u : Name) (x : Unit) (body : NodeId) (values : List Value) (at : Spot) (tree : Attempt) : Type 0 where
  pub machine : Evaluation
  pub root_machine : IsRootMachine (start_of old.setup u (unit_state x) body values) machine
  pub new : IsNew (next_made u (unit_state x)) machine (actor_of x.kind) (length old.history) old.setup.limits.fuel at tree

-- Began: the unit has an attempt of its root alone, which can go on, and has that mark
pub record BeginsMarked (old : Shared) (u : Name) (x : Unit) (m : Mark) (body : NodeId) (values : List Value) (at : Spot) (found : Given) (new : Shared) : Type 0 where
  pub found_is : found ≡ given.Began (length old.history)
  pub tree : Attempt
  pub fresh : IsFreshAttempt old u x body values at tree
  pub none : piece_at old.board (next_made u (unit_state x)) ≡ None
  pub board : Board
  pub root : IsPutAt (next_made u (unit_state x)) (Some (piece.Task (mark.Ready work.Eval))) old.board board
  pub waits : IsMarkedUnit old.setup u x m board new.board
  pub attempts : new.attempts ≡ with_named old.attempts u tree
  pub owners : new.owners ≡ with_named old.owners (next_made u (unit_state x)) u
  pub others : new ≡ record old { attempts = new.attempts; owners = new.owners; board = new.board }

-- and waits for that root
abbrev pub Begins : Shared → Name → Unit → NodeId → List Value → Spot → Given → Shared → Type 0
Begins old u x body values at found new = BeginsMarked old u x (mark.Waiting (wait.Finish (next_made u (unit_state x)))) body values at found new

-- the attempt of that unit is gone, and every other one stays
abbrev pub IsWithout : {X : Type 0} → Name → Named X → Named X → Type 0
IsWithout {X} name old new = (other : Name) → named other new ≡ cond (same_name other name) None (named other old)

-- The snapshots of the attempts that are live: each of them, and no more than there are attempts.
pub record AreLive (live : List ℕ) (attempts : Named Attempt) : Type 0 where
  pub each : (u : Name) (tree : Attempt) → named u attempts ≡ Some tree → Contains live tree.snapshot
  pub count : length live ≤ length attempts

-- what the live attempts read stays, and the newest version of each ref; of a ref at most one version more is kept than there are
-- attempts
pub record ArePrunedFor (attempts : Named Attempt) (old new : Named (List Version)) : Type 0 where
  pub live : List ℕ
  pub are_live : AreLive live attempts
  pub pruned : ArePruned live old new

-- The unit is there with that mark, the tasks of its attempt are gone, and every other piece stays.
pub record TasksGo (u : Name) (y : Unit) (tree : Attempt) (old new : Board) : Type 0 where
  pub here : piece_at new u ≡ Some (piece.Unit y)
  pub others : (other : Name) → (other ≡ u → ⊥) → piece_at new other ≡ cond (is_some (named other tree.tasks)) (task_gone (piece_at old other)) (piece_at old other)

-- the attempt of the unit is gone, with its tasks; the unit stands there
pub record AttemptGoes (old : Shared) (u : Name) (y : Unit) (tree : Attempt) (new : Shared) : Type 0 where
  pub attempts : IsWithout u old.attempts new.attempts
  pub tasks : TasksGo u y tree old.board new.board

-- what the tasks of an attempt have done
pub record HasDone (tree : Attempt) (log : SnapshotTask) : Type 0 where
  pub root : IsRootLog tree log
  pub rises : Rises log.log.writes
