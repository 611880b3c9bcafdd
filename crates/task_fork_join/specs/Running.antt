-- An attempt that runs a transaction.
use Rattle.std.specs.Prelude.{◌≡◌, ℕ, true, List, [], Option, Some, IfSome}
use Rattle.std.specs.Option.{IsSome}
use Rattle.eval_step.specs.Evaluation.{Evaluation, IsOf}
use Rattle.serial_model.specs.declared.halt.Halt.{Halt}
use Rattle.serial_model.specs.declared.halt.Halt.TheVariants as halt
use Rattle.serial_model.specs.declared.request.Request.{Request}
use Rattle.serial_model.specs.declared.request.Request.TheVariants as request
use Rattle.serial_model.specs.Carried.{IsThere}
use Rattle.serial_model.specs.Eval.{next}
use Rattle.serial_model.specs.Standing.{Agrees, Runs, Start}
use Rattle.serial_model.specs.Task.{Around, transaction}
use Rattle.task_fork_join.specs.Attempt.{Attempt, end_at, outcome_of, tasks_of}
use Rattle.task_fork_join.specs.declared.stepped.Stepped.{Stepped}
use Rattle.task_fork_join.specs.declared.task.Closing.{Closing}
use Rattle.task_fork_join.specs.declared.task.Stage.{Stage as KeptStage}
use Rattle.task_fork_join.specs.declared.task.Stage.TheVariants as kept
use Rattle.task_fork_join.specs.declared.task.Task.{Task}
use Rattle.task_fork_join.specs.declared.task_end.TaskEnd.{TaskEnd}
use Rattle.task_fork_join.specs.declared.task_end.TaskEnd.TheVariants as end
use Rattle.task_fork_join.specs.Attempt.{IsKept, IsNew}
use Rattle.task_fork_join.specs.Step.{IsStep}
use Rattle.txn_snapshot.specs.SnapshotTask.{AreAmong}
use Rattle.value_core.specs.declared.code.Code.TheVariants as code
use Rattle.value_core.specs.declared.value.Value.{Value as Datum}
use Rattle.value_core.specs.Named.{Name, Named, is_among, named}
use Rattle.value_core.specs.Place.{Spot}

-- the machine evaluates a body of that transaction
pub record IsMachine (start : Start) (machine : Evaluation) : Type 0 where
  pub inside : machine.inside ≡ true
  pub fuel : machine.fuel ≡ start.fuel
  pub of : IsOf start.program machine

-- a task at its value has such a machine, which comes to that value
pub record IsClosing (start : Start) (closing : Closing) : Type 0 where
  pub machine : IsMachine start closing.machine
  pub comes : next start.program closing.machine.body closing.machine.values true closing.machine.answers start.fuel ≡ halt.Value closing.value

-- a task that has not ended has such a machine
abbrev pub HasMachine : Start → KeptStage → Type 0
HasMachine start (kept.Going machine) = IsMachine start machine
HasMachine start (kept.Closing closing) = IsClosing start closing
HasMachine start (kept.Ended ended) = Unit {0}

-- a task of that transaction, which read no other refs than these
pub record IsMember (start : Start) (reads : List Name) (t : Task) : Type 0 where
  pub machine : HasMachine start t.stage
  pub actor : t.log.actor ≡ start.actor
  pub reads_so : AreAmong t.log.reads reads

-- all tasks are such
abbrev pub AreMembers : Start → List Name → Named Task → Type 0
AreMembers start reads tasks = (name : Name) (t : Task) → named name tasks ≡ Some t → IsMember start reads t

-- The attempt runs that transaction, whose dosync stands at that place, on these refs, where these plain tasks are finished. Each ref that
-- it has read has a value there.
pub record IsRun (start : Start) (at : Spot) (base : Name → Option Datum) (finished : Name → Option Datum) (tree : Attempt) : Type 0 where
  pub runs : Runs start base finished (tasks_of tree.tasks) tree.reads
  pub members : AreMembers start tree.reads tree.tasks
  pub read_there : (ref : Name) → is_among ref tree.reads ≡ true → IsSome (base ref)
  pub root : tree.root ≡ start.name
  pub actor : tree.actor ≡ start.actor
  pub fuel : tree.fuel ≡ start.fuel
  pub escape : tree.escape ≡ end.Fault code.FutureEscapes at

-- a body that is asked for is in the table
abbrev pub IsThereAt : Start → Halt → Type 0
IsThereAt start (halt.Ask asked at) = IsThere start.program true asked
IsThereAt start _ = Unit {0}

-- a plain task that is asked for has no other value
abbrev pub IsFinishedAs : (Name → Option Datum) → Halt → Option Datum → Type 0
IsFinishedAs finished (halt.Ask (request.Join future) at) outer = IfSome outer (λ v. finished future ≡ Some v)
IsFinishedAs finished _ outer = Unit {0}

-- a run of a machine of that transaction to that halt
pub record IsMove (start : Start) (moved : Evaluation) (halts : Halt) : Type 0 where
  pub machine : IsMachine start moved
  pub halts_so : next start.program moved.body moved.values true moved.answers start.fuel ≡ halts
  pub there : IsThereAt start halts

-- the machine has yet to begin the body of that transaction
pub record IsRootMachine (start : Start) (machine : Evaluation) : Type 0 where
  pub machine_of : IsMachine start machine
  pub body : machine.body ≡ start.body
  pub values : machine.values ≡ start.values
  pub none : machine.answers ≡ []

-- An attempt of its root alone runs the transaction that its machine is to evaluate.
abbrev pub NewAttemptsRun : Type 0
NewAttemptsRun = (start : Start) (at : Spot) (base finished : Name → Option Datum) (machine : Evaluation) (snapshot : ℕ) (tree : Attempt)
    → IsRootMachine start machine → IsNew start.name machine start.actor snapshot start.fuel at tree → IsRun start at base finished tree

-- A step keeps that an attempt runs its transaction, in whatever order its tasks step.
abbrev pub StepsKeepRuns : Type 0
StepsKeepRuns = (start : Start) (at : Spot) (base finished refs : Name → Option Datum) (old new : Attempt) (name : Name) (moved : Evaluation) (outer : Option Datum) (halts : Halt) (found : Stepped)
    → IsRun start at base finished old → IsKept name moved old.tasks → IsMove start moved halts → IsFinishedAs finished halts outer
    → ((ref : Name) → refs ref ≡ base ref)
    → IsStep refs name moved outer halts old new found
    → IsRun start at base finished new

-- an attempt ended as the transaction does that is run with that: with this end, and where that is a value with what the root did
pub record EndsAs (start : Start) (at : Spot) (tree : Attempt) (ended : TaskEnd) (around : Around) : Type 0 where
  pub outcome : (transaction around start.name at start.body start.values).outcome ≡ outcome_of ended
  pub log : (t : Task) → named tree.root tree.tasks ≡ Some t → (transaction around start.name at start.body start.values).log ≡ t.log.log

-- An attempt that runs a transaction ends as the transaction does, on all refs that agree with its own on what was read.
abbrev pub EndsAreOfTransactions : Type 0
EndsAreOfTransactions = (start : Start) (at : Spot) (base finished : Name → Option Datum) (tree : Attempt) (ended : TaskEnd)
    → IsRun start at base finished tree → end_at tree ≡ Some ended
    → (around : Around) → Agrees start base tree.reads finished around → EndsAs start at tree ended around
