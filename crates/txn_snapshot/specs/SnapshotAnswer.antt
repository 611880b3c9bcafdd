-- What a request of a task is answered on a snapshot of the refs.
use Rattle.std.specs.Prelude.{ℕ, List, Option, None, Some}
use Rattle.std.specs.Option.{option_map, option_or}
use Rattle.ref_store.specs.declared.version.Version.{Version}
use Rattle.ref_store.specs.Store.{versions_of}
use Rattle.ref_store.specs.Version.{value_at}
use Rattle.serial_model.specs.Ahead.{answer_ahead}
use Rattle.serial_model.specs.declared.answer.Answer.{Answer}
use Rattle.serial_model.specs.declared.answer.Answer.TheVariants as answer
use Rattle.serial_model.specs.declared.request.Request.{Request}
use Rattle.serial_model.specs.declared.request.Request.TheVariants as request
use Rattle.serial_model.specs.Log.{with_write}
use Rattle.serial_model.specs.Task.{done_by}
use Rattle.txn_snapshot.specs.declared.answered.Answered.{Answered}
use Rattle.txn_snapshot.specs.declared.answered.Answered.TheVariants as answered
use Rattle.txn_snapshot.specs.SnapshotTask.{SnapshotTask, having_read, private, with_log}
use Rattle.value_core.specs.declared.value.Value.{Value as Datum}
use Rattle.value_core.specs.Named.{Name, Named, made_by}

-- the refs as they stand at a number
abbrev pub snapshot_of : Named (List Version) → ℕ → Name → Option Datum
snapshot_of versions number ref = value_at number (versions_of versions ref)

-- the answer, and the task after it
abbrev pub Reply : Type 0
Reply = Answered × SnapshotTask

-- the answer alone
abbrev pub answer_of : Reply → Answered
answer_of reply = reply.0

-- a deref of a ref of which the task has this value of its own, and the snapshot that one; where the snapshot's is given the
-- ref counts as read
abbrev pub reads_ref : SnapshotTask → Name → Option Datum → Option Datum → Reply
reads_ref task ref (Some v) stored = (answered.Now (answer.Value v), task)
reads_ref task ref None (Some v) = (answered.Now (answer.Value v), having_read task ref)
reads_ref task ref None None = (answered.NotInSnapshot ref, task)

-- a ref-set of a ref that has this value now
abbrev pub sets_ref : SnapshotTask → Name → Datum → Option Datum → Reply
sets_ref task ref v (Some old) = (answered.Now (answer.Value v), with_log task (with_write task.log ref v))
sets_ref task ref v None = (answered.NotInSnapshot ref, task)

-- what is answered whatever the refs are
abbrev pub acts : SnapshotTask → Request → Answer → Reply
acts task asked given = (answered.Now given, with_log task (done_by task.actor task.log asked))

-- what a request is answered on these refs; a fork, a join and a dosync are not answered by the task alone
abbrev pub replies : (Name → Option Datum) → SnapshotTask → Request → Option Reply
replies snapshot task (request.Deref ref) = Some (reads_ref task ref (private task ref) (snapshot ref))
replies snapshot task (request.RefSet ref v) = Some (sets_ref task ref v (option_or (private task ref) (snapshot ref)))
replies snapshot task (request.Fork body values) = None
replies snapshot task asked = option_map (acts task asked) (answer_ahead task.actor (made_by task.log.name task.log.made) asked)

-- the request is neither a fork nor a join nor a dosync
abbrev pub IsAnswerable : Request → Type 0
IsAnswerable (request.Fork body values) = ⊥
IsAnswerable (request.Join future) = ⊥
IsAnswerable (request.Dosync body values) = ⊥
IsAnswerable _ = Unit {0}

-- the request is a deref or a ref-set
abbrev pub NamesRef : Request → Type 0
NamesRef (request.Deref ref) = Unit {0}
NamesRef (request.RefSet ref v) = Unit {0}
NamesRef _ = ⊥
