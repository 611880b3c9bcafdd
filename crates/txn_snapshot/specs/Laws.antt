-- What a task is answered rests on the refs that it has read.
use Rattle.std.specs.Prelude.{◌≡◌, ℕ, true, List, [], ◌∷◌, ◌++◌, Option, Some}
use Rattle.core_syntax.specs.declared.node_id.NodeId.{NodeId}
use Rattle.serial_model.specs.declared.answer.Answer.{Answer}
use Rattle.serial_model.specs.declared.halt.Halt.TheVariants as halt
use Rattle.serial_model.specs.declared.request.Request.{Request}
use Rattle.serial_model.specs.declared.request.Request.TheVariants as request
use Rattle.serial_model.specs.Eval.{next}
use Rattle.serial_model.specs.Standing.{Going, Runs, Stage, Start, Tasks, TreeTask, here_of}
use Rattle.serial_model.specs.Task.{Around, Call, Known, On, asks}
use Rattle.txn_snapshot.specs.declared.answered.Answered.TheVariants as answered
use Rattle.txn_snapshot.specs.SnapshotAnswer.{replies}
use Rattle.txn_snapshot.specs.SnapshotTask.{SnapshotTask, AreAmong}
use Rattle.value_core.specs.declared.value.Value.{Value as Datum}
use Rattle.value_core.specs.Named.{Name, is_among, named, with_named}
use Rattle.value_core.specs.Place.{Spot}

-- the second refs are the first ones at each of these names
abbrev pub AgreeOn : List Name → (Name → Option Datum) → (Name → Option Datum) → Type 0
AgreeOn reads one other = (ref : Name) → is_among ref reads ≡ true → other ref ≡ one ref

-- A deref that is answered on one store is answered so on each that agrees with it on the refs that the task has then read.
abbrev pub DerefsRestOnReads : Type 0
DerefsRestOnReads = (snapshot other : Name → Option Datum) (task after : SnapshotTask) (ref : Name) (given : Answer)
    → replies snapshot task (request.Deref ref) ≡ Some (answered.Now given, after)
    → AgreeOn after.reads snapshot other
    → replies other task (request.Deref ref) ≡ Some (answered.Now given, after)

-- What a task is answered on a snapshot is what the serial meaning answers it, on each store that agrees with the snapshot on
-- the refs that the task has then read.
abbrev pub AnswersRestOnReads : Type 0
AnswersRestOnReads = (snapshot : Name → Option Datum) (task after : SnapshotTask) (asked : Request) (given : Answer)
    → replies snapshot task asked ≡ Some (answered.Now given, after)
    → (around : Around) → around.actor ≡ task.actor → AgreeOn after.reads snapshot around.store
    → (levels : ℕ) (call : Call) (answers : List Answer) (known : Known)
    → asks around levels call task.base (here_of answers task.log known) asked ≡ On (here_of (answers ++ given ∷ []) after.log known)

-- the task among those of an attempt: with so many levels of forks below it and these known futures, and there it is
abbrev pub in_tree : SnapshotTask → ℕ → List Name → Stage → TreeTask
in_tree task levels knows stage = record { levels = levels; view = task.base; knows = knows; log = task.log; stage = stage }

-- Where tasks run a transaction and one of them is answered on the snapshot, they run it still: they stand for it on each
-- store that agrees with the snapshot on the refs that were read, those of that task among them.
abbrev pub AnswersKeepRuns : Type 0
AnswersKeepRuns = (start : Start) (snapshot finished : Name → Option Datum) (tasks : Tasks) (reads more : List Name)
    → Runs start snapshot finished tasks reads
    → (name : Name) (task after : SnapshotTask) (levels : ℕ) (knows : List Name) (body : NodeId) (values : List Datum) (answers : List Answer)
    → named name tasks ≡ Some (in_tree task levels knows (Going body values answers)) → task.actor ≡ start.actor
    → (asked : Request) (at : Spot) (given : Answer)
    → next start.program body values true answers start.fuel ≡ halt.Ask asked at
    → replies snapshot task asked ≡ Some (answered.Now given, after)
    → AreAmong reads more → AreAmong after.reads more
    → Runs start snapshot finished (with_named tasks name (in_tree after levels knows (Going body values (answers ++ given ∷ [])))) more
