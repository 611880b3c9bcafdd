-- What a step does to the task that takes it.
use Rattle.std.specs.Prelude.{◌≡◌, Bool, true, false, List, [], ◌∷◌, ◌++◌, Option, None, Some, is_some, if◌then◌else◌}
use Rattle.std.specs.Option.{option_map}
use Rattle.core_syntax.specs.Table.{Table}
use Rattle.eval_step.specs.Evaluation.{Evaluation, IsOf, IsSameTask}
use Rattle.serial_model.specs.declared.answer.Answer.{Answer}
use Rattle.serial_model.specs.declared.request.Request.{Request}
use Rattle.serial_model.specs.declared.request.Request.TheVariants as request
use Rattle.task_fork_join.specs.declared.stepped.Stepped.{Stepped}
use Rattle.task_fork_join.specs.declared.stepped.Stepped.TheVariants as stepped
use Rattle.task_fork_join.specs.declared.task.Parts.{Parts}
use Rattle.task_fork_join.specs.declared.task.Stage.{Stage as KeptStage}
use Rattle.task_fork_join.specs.declared.task.Stage.TheVariants as kept
use Rattle.task_fork_join.specs.declared.task.Task.{Task}
use Rattle.txn_snapshot.specs.declared.answered.Answered.{Answered}
use Rattle.txn_snapshot.specs.declared.answered.Answered.TheVariants as answered
use Rattle.txn_snapshot.specs.Reads.{with_read}
use Rattle.txn_snapshot.specs.SnapshotAnswer.{answer_of, replies}
use Rattle.txn_snapshot.specs.SnapshotTask.{SnapshotTask, private}
use Rattle.value_core.specs.declared.value.Value.{Value as Datum}
use Rattle.value_core.specs.Named.{Name, Named, named, IsChanged}

-- whether the step waits for a ref
abbrev pub is_missing : Stepped → Bool
is_missing (stepped.NotInSnapshot ref) = true
is_missing _ = false

-- the task is there, and else as it was
abbrev pub Gone : KeptStage → Task → Task → Type 0
Gone stage old new = new ≡ record old { stage = stage }

-- it has done this and is there, and else as it was
abbrev pub Acted : SnapshotTask → KeptStage → Task → Task → Type 0
Acted log stage old new = new ≡ record old { log = log; stage = stage }

-- its log has answered the request on these refs, and it goes on with that machine, and is else as it was
pub record HasActed (refs : Name → Option Datum) (asked : Request) (machine : Evaluation) (old new : Task) : Type 0 where
  pub reply : Answered
  pub log : SnapshotTask
  pub replies_so : replies refs old.log asked ≡ Some (reply, log)
  pub acted : Acted log (kept.Going machine) old new

-- the log of the task of that name is to answer the request on these refs so
abbrev pub IsForeseen : (Name → Option Datum) → Name → Request → Answer → Named Task → Type 0
IsForeseen refs name asked given tasks = (t : Task) → named name tasks ≡ Some t → option_map answer_of (replies refs t.log asked) ≡ Some (answered.Now given)

-- it has done this, knows these, and is there
abbrev pub HasParts : Parts → KeptStage → Task → Task → Type 0
HasParts parts stage old new = new ≡ record { log = parts.log; knows = parts.knows; stage = stage }

-- the machine was given the answer
pub record IsGiven (moved : Evaluation) (given : Answer) (machine : Evaluation) : Type 0 where
  pub same : IsSameTask moved machine
  pub answers : machine.answers ≡ moved.answers ++ given ∷ []
  pub of : (table : Table) → IsOf table moved → IsOf table machine

-- the task of that name was given the answer, and else the tasks stay
pub record IsAnswered (name : Name) (moved : Evaluation) (given : Answer) (old new : Named Task) (found : Stepped) : Type 0 where
  pub machine : Evaluation
  pub given_so : IsGiven moved given machine
  pub tasks : IsChanged name old new (Gone (kept.Going machine))
  pub now : found ≡ stepped.Now

-- the task of that name waits with the machine as it moved, and else the tasks stay
pub record IsWaiting (name : Name) (moved : Evaluation) (wait : Stepped) (old new : Named Task) (found : Stepped) : Type 0 where
  pub tasks : IsChanged name old new (Gone (kept.Going moved))
  pub waits : found ≡ wait

-- the refs that were read, after a deref of a ref that the task has not of its own
abbrev pub noted : SnapshotTask → Request → List Name → List Name
noted task (request.Deref ref) reads = if is_some (private task ref) then reads else with_read reads ref
noted task _ reads = reads

-- these refs, and that one where there is one
abbrev pub with_one : Option Name → List Name → List Name
with_one None reads = reads
with_one (Some ref) reads = with_read reads ref

-- the task was given the answer of its log, and what it did and read is kept
pub record IsReplied (name : Name) (moved : Evaluation) (asked : Request) (given : Answer) (log : SnapshotTask) (old : Named Task) (reads : List Name) (new : Named Task) (more : List Name) (found : Stepped) : Type 0 where
  pub machine : Evaluation
  pub given_so : IsGiven moved given machine
  pub tasks : IsChanged name old new (Acted log (kept.Going machine))
  pub reads_so : (t : Task) → named name old ≡ Some t → more ≡ noted t.log asked reads
  pub now : found ≡ stepped.Now

-- the task waits for a ref that is not in the snapshot
pub record IsMissing (name : Name) (moved : Evaluation) (ref : Name) (old : Named Task) (reads : List Name) (new : Named Task) (more : List Name) (found : Stepped) : Type 0 where
  pub waiting : IsWaiting name moved (stepped.NotInSnapshot ref) old new found
  pub reads_so : more ≡ reads

-- what comes of what the log of the task answers
abbrev pub CameReply : Name → Evaluation → Request → Answered → SnapshotTask → Named Task → List Name → Named Task → List Name → Stepped → Type 0
CameReply name moved asked (answered.Now given) log old reads new more found = IsReplied name moved asked given log old reads new more found
CameReply name moved asked (answered.NotInSnapshot ref) log old reads new more found = IsMissing name moved ref old reads new more found

-- a request that the log of the task answers on these refs
pub record IsActed (refs : Name → Option Datum) (name : Name) (moved : Evaluation) (asked : Request) (old : Named Task) (reads : List Name) (new : Named Task) (more : List Name) (found : Stepped) : Type 0 where
  pub reply : Answered
  pub log : SnapshotTask
  pub replies_so : (t : Task) → named name old ≡ Some t → replies refs t.log asked ≡ Some (reply, log)
  pub came : CameReply name moved asked reply log old reads new more found
