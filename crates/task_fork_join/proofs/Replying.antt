-- A task that its log answers.
use Rattle.std.proofs.Common.{◌≡◌, ◌∙◌, Bool, true, false, cond, List, [], ◌∷◌, ◌++◌, refl, sym, ap, subst, Option, Some, None}
use Rattle.std.specs.Prelude.{◌||◌, is_some}
use Rattle.std.specs.Option.{IsSome, option_map, option_or}
use Rattle.eval_step.specs.Evaluation.{Evaluation}
use Rattle.serial_model.specs.Ahead.{answer_ahead}
use Rattle.serial_model.specs.declared.answer.Answer.{Answer}
use Rattle.serial_model.specs.declared.halt.Halt.{Halt}
use Rattle.serial_model.specs.declared.halt.Halt.TheVariants as halt
use Rattle.serial_model.specs.declared.request.Request.{Request}
use Rattle.serial_model.specs.declared.request.Request.TheVariants as request
use Rattle.serial_model.specs.Standing.{Going, Runs, Start}
use Rattle.task_fork_join.proofs.Members.{StandsAt, among_one, given_machine, going_at, put_runs, staged}
use Rattle.task_fork_join.proofs.Members as members
use Rattle.task_fork_join.specs.Attempt.{Attempt, levels_below, stage_of, tasks_of, tree_task}
use Rattle.task_fork_join.specs.declared.stepped.Stepped.{Stepped}
use Rattle.task_fork_join.specs.declared.task.Stage.TheVariants as kept
use Rattle.task_fork_join.specs.declared.task.Task.{Task}
use Rattle.task_fork_join.specs.Running.{HasMachine, IsMachine, IsMember, IsMove, IsRun}
use Rattle.task_fork_join.specs.Step.{Stays}
use Rattle.task_fork_join.specs.Stepping.{noted, CameReply, Gone, IsActed, IsGiven, IsWaiting}
use Rattle.shared_map.proofs.NameLaws.{among-with_member}
use Rattle.txn_snapshot.proofs.ReadLaws.{among-itself}
use Rattle.txn_snapshot.proofs.Replies.{same_reply, stays}
use Rattle.txn_snapshot.proofs.TreeAnswers.{answers_keep_runs}
use Rattle.txn_snapshot.specs.declared.answered.Answered.{Answered}
use Rattle.txn_snapshot.specs.declared.answered.Answered.TheVariants as answered
use Rattle.txn_snapshot.specs.Laws.{in_tree}
use Rattle.txn_snapshot.specs.Reads.{with_read}
use Rattle.txn_snapshot.specs.SnapshotAnswer.{Reply, acts, reads_ref, replies, sets_ref}
use Rattle.txn_snapshot.specs.SnapshotTask.{SnapshotTask, having_read, private, AreAmong}
use Rattle.value_core.proofs.NamedLaws.{same_name-equal}
use Rattle.value_core.specs.declared.value.Value.{Value as Datum}
use Rattle.value_core.specs.Named.{Name, is_among, made_by, same_name, with_named, IsChanged}
use Rattle.value_core.specs.Place.{Spot}

-- what is answered on refs that are the same
pub replies_by : (one other : Name → Option Datum) (task : SnapshotTask) (asked : Request) → ((ref : Name) → one ref ≡ other ref) → replies one task asked ≡ replies other task asked
replies_by one other task (request.Print text) same = refl
replies_by one other task (request.NewRef v) same = refl
replies_by one other task (request.Deref ref) same = ap (λ o. Some (reads_ref task ref (private task ref) o)) (same ref)
replies_by one other task (request.RefSet ref v) same = ap (λ o. Some (sets_ref task ref v (option_or (private task ref) o))) (same ref)
replies_by one other task (request.Fork body values) same = refl
replies_by one other task (request.Join future) same = refl
replies_by one other task (request.Dosync body values) same = refl
replies_by one other task (request.Spawn behaviour state) same = refl
replies_by one other task (request.Send to message) same = refl
replies_by one other task (request.Become behaviour state) same = refl
replies_by one other task request.SelfActor same = refl

-- what the task has then read is among what was read and noted
record IsNoted (task after : SnapshotTask) (asked : Request) (reads : List Name) : Type 0 where
  old : AreAmong reads (noted task asked reads)
  new : AreAmong after.reads (noted task asked reads)

still : (task after : SnapshotTask) (asked : Request) (reads : List Name) → AreAmong task.reads reads → after.reads ≡ task.reads → noted task asked reads ≡ reads → IsNoted task after asked reads
still task after asked reads all same none = record {
  old = λ ref among. ap (is_among ref) none ∙ among;
  new = λ ref among. ap (is_among ref) none ∙ all ref (sym (ap (is_among ref) same) ∙ among);
}

acting : (task after : SnapshotTask) (asked : Request) (reads : List Name) (given : Answer) (ahead : Option Answer) → AreAmong task.reads reads → noted task asked reads ≡ reads
    → option_map (acts task asked) ahead ≡ Some (answered.Now given, after) → IsNoted task after asked reads
acting task after asked reads given None all none is = absurd (cc)
acting task after asked reads given (Some x) all none is =
    still task after asked reads all (sym (ap (λ (r : Reply). r.1.reads) (same_reply (acts task asked x) (answered.Now given, after) is))) none

more_read : (reads : List Name) (ref : Name) → AreAmong reads (with_read reads ref)
more_read reads ref q among = among-with_member q reads ref ∙ ap (λ b. same_name q ref || b) among ∙ truly (same_name q ref)
  where
    truly : (b : Bool) → (b || true) ≡ true
    truly true = refl
    truly false = refl

deref_noted : (task after : SnapshotTask) (ref : Name) (reads : List Name) (given : Answer) (own stored : Option Datum) → AreAmong task.reads reads → private task ref ≡ own
    → reads_ref task ref own stored ≡ (answered.Now given, after) → IsNoted task after (request.Deref ref) reads
deref_noted task after ref reads given (Some v) stored all held is =
    still task after (request.Deref ref) reads all (sym (ap (λ (r : Reply). r.1.reads) is)) (ap (λ (o : Option Datum). cond (is_some o) reads (with_read reads ref)) held)
deref_noted task after ref reads given None (Some v) all none is = record {
  old = λ q among. ap (is_among q) (sym more) ∙ more_read reads ref q among;
  new = λ q among. ap (is_among q) (sym more)
      ∙ among_one task.reads (with_read reads ref) ref (λ p there. more_read reads ref p (all p there)) (among-itself reads ref) q (ap (is_among q) (ap (λ (r : Reply). r.1.reads) is) ∙ among);
}
  where
    more : with_read reads ref ≡ noted task (request.Deref ref) reads
    more = sym (ap (λ (o : Option Datum). cond (is_some o) reads (with_read reads ref)) none)
deref_noted task after ref reads given None None all none is = absurd (let never = ap (λ (r : Reply). r.0) is in cc)

set_noted : (task after : SnapshotTask) (ref : Name) (v : Datum) (reads : List Name) (given : Answer) (found : Option Datum) → AreAmong task.reads reads
    → sets_ref task ref v found ≡ (answered.Now given, after) → IsNoted task after (request.RefSet ref v) reads
set_noted task after ref v reads given (Some old) all is = still task after (request.RefSet ref v) reads all (sym (ap (λ (r : Reply). r.1.reads) is)) refl
set_noted task after ref v reads given None all is = absurd (let never = ap (λ (r : Reply). r.0) is in cc)

abbrev ahead_of : SnapshotTask → Request → Option Answer
ahead_of task asked = answer_ahead task.actor (made_by task.log.name task.log.made) asked

reads_noted : (base : Name → Option Datum) (task after : SnapshotTask) (asked : Request) (reads : List Name) (given : Answer) → AreAmong task.reads reads
    → replies base task asked ≡ Some (answered.Now given, after) → IsNoted task after asked reads
reads_noted base task after (request.Print text) reads given all is = acting task after (request.Print text) reads given (ahead_of task (request.Print text)) all refl is
reads_noted base task after (request.NewRef v) reads given all is = acting task after (request.NewRef v) reads given (ahead_of task (request.NewRef v)) all refl is
reads_noted base task after (request.Deref ref) reads given all is =
    deref_noted task after ref reads given (private task ref) (base ref) all refl (same_reply (reads_ref task ref (private task ref) (base ref)) (answered.Now given, after) is)
reads_noted base task after (request.RefSet ref v) reads given all is =
    let found = option_or (private task ref) (base ref) in
    set_noted task after ref v reads given found all (same_reply (sets_ref task ref v found) (answered.Now given, after) is)
reads_noted base task after (request.Fork body values) reads given all is = absurd (cc)
reads_noted base task after (request.Join future) reads given all is = absurd (cc)
reads_noted base task after (request.Dosync body values) reads given all is = absurd (cc)
reads_noted base task after (request.Spawn behaviour state) reads given all is = acting task after (request.Spawn behaviour state) reads given (ahead_of task (request.Spawn behaviour state)) all refl is
reads_noted base task after (request.Send to message) reads given all is = acting task after (request.Send to message) reads given (ahead_of task (request.Send to message)) all refl is
reads_noted base task after (request.Become behaviour state) reads given all is = acting task after (request.Become behaviour state) reads given (ahead_of task (request.Become behaviour state)) all refl is
reads_noted base task after request.SelfActor reads given all is = acting task after request.SelfActor reads given (ahead_of task request.SelfActor) all refl is

-- each ref that was read then has a value
read_more : (base : Name → Option Datum) (task : SnapshotTask) (after : SnapshotTask) (ref : Name) (reads : List Name) (given : Answer) (own stored : Option Datum)
    → ((r : Name) → is_among r reads ≡ true → IsSome (base r)) → private task ref ≡ own → base ref ≡ stored → reads_ref task ref own stored ≡ (answered.Now given, after)
    → (r : Name) → is_among r (noted task (request.Deref ref) reads) ≡ true → IsSome (base r)
read_more base task after ref reads given (Some v) stored all held is_there is r among =
    all r (ap (is_among r) (sym (ap (λ (o : Option Datum). cond (is_some o) reads (with_read reads ref)) held)) ∙ among)
read_more base task after ref reads given None (Some v) all none is_there is r among = on (same_name r ref) refl (sym (among-with_member r reads ref) ∙ more)
  where
    more : is_among r (with_read reads ref) ≡ true
    more = ap (is_among r) (sym (ap (λ (o : Option Datum). cond (is_some o) reads (with_read reads ref)) none)) ∙ among

    on : (b : Bool) → same_name r ref ≡ b → (b || is_among r reads) ≡ true → IsSome (base r)
    on true same so = subst IsSome (sym (ap base (same_name-equal r ref same) ∙ is_there)) refl
    on false same so = all r so
read_more base task after ref reads given None None all none is_there is r among = absurd (let never = ap (λ (r : Reply). r.0) is in cc)

read_there : (base : Name → Option Datum) (task after : SnapshotTask) (asked : Request) (reads : List Name) (given : Answer) → ((r : Name) → is_among r reads ≡ true → IsSome (base r))
    → replies base task asked ≡ Some (answered.Now given, after) → (r : Name) → is_among r (noted task asked reads) ≡ true → IsSome (base r)
read_there base task after (request.Print text) reads given all is = all
read_there base task after (request.NewRef v) reads given all is = all
read_there base task after (request.Deref ref) reads given all is =
    read_more base task after ref reads given (private task ref) (base ref) all refl refl (same_reply (reads_ref task ref (private task ref) (base ref)) (answered.Now given, after) is)
read_there base task after (request.RefSet ref v) reads given all is = all
read_there base task after (request.Fork body values) reads given all is = all
read_there base task after (request.Join future) reads given all is = all
read_there base task after (request.Dosync body values) reads given all is = all
read_there base task after (request.Spawn behaviour state) reads given all is = all
read_there base task after (request.Send to message) reads given all is = all
read_there base task after (request.Become behaviour state) reads given all is = all
read_there base task after request.SelfActor reads given all is = all

module _ (start : Start) (at : Spot) (base finished : Name → Option Datum) (old new : Attempt) (name : Name) (moved : Evaluation) (run : IsRun start at base finished old) (is : StandsAt name (going_at moved) old.tasks) (stays_so : Stays old new) where
  abbrev t : Task
  t = is.task

  -- a member at another stage
  pub member_at : (t' : Task) → t'.log ≡ t.log → new.reads ≡ old.reads → HasMachine start t'.stage → IsMember start new.reads t'
  member_at t' log_is reads_are machine =
      record {
        machine = machine;
        actor = ap (λ (l : SnapshotTask). l.actor) log_is ∙ (run.members name t is.there).actor;
        reads_so = λ ref among. ap (is_among ref) reads_are ∙ (run.members name t is.there).reads_so ref (ap (λ (l : SnapshotTask). is_among ref l.reads) (sym log_is) ∙ among);
      }

  -- it waits, and only its machine has moved
  pub waited : (halts : Halt) → IsMove start moved halts → (wait found : Stepped) → IsWaiting name moved wait old.tasks new.tasks found → new.reads ≡ old.reads → IsRun start at base finished new
  waited halts move wait found waits reads_are =
      let to = waits.tasks t is.there in
      staged start at base finished old new name moved halts (going_at moved) run is move stays_so to.item (Going moved.body moved.values moved.answers) to.put
      (ap (λ (s : Task). s.log) to.related) (ap (λ (s : Task). s.knows) to.related) (ap (λ (s : Task). stage_of s.stage) to.related) reads_are
      (member_at to.item (ap (λ (s : Task). s.log) to.related) reads_are (subst (λ (s : Task). HasMachine start s.stage) (sym to.related) move.machine))
      (λ around agrees results each so at_it. at_it)

  module _ (asked : Request) (place : Spot) (move : IsMove start moved (halt.Ask asked place)) where
    pub replied : (given : Answer) (log : SnapshotTask) (found : Stepped) → replies base t.log asked ≡ Some (answered.Now given, log)
        → CameReply name moved asked (answered.Now given) log old.tasks old.reads new.tasks new.reads found → IsRun start at base finished new
    replied given log found reply came =
        let to = came.tasks t is.there in
        let noted_so = reads_noted base t.log log asked old.reads given (run.members name t is.there).reads_so reply in
        let leaves = stays base t.log log asked (answered.Now given) reply in
        let all : AreAmong old.reads new.reads = λ ref among. ap (is_among ref) (came.reads_so t is.there) ∙ noted_so.old ref among in
        let read : AreAmong log.reads new.reads = λ ref among. ap (is_among ref) (came.reads_so t is.there) ∙ noted_so.new ref among in
        put_runs start at base finished old new name to.item run stays_so to.put all
        (λ ref among. read_there base t.log log asked old.reads given run.read_there reply ref (ap (is_among ref) (sym (came.reads_so t is.there)) ∙ among))
        (record {
          machine = subst (λ (s : Task). HasMachine start s.stage) (sym to.related) (given_machine start at base finished moved came.machine given move.machine came.given_so);
          actor = ap (λ (s : Task). s.log.actor) to.related ∙ leaves.actor ∙ (run.members name t is.there).actor;
          reads_so = λ ref among. read ref (ap (λ (s : Task). is_among ref s.log.reads) (sym to.related) ∙ among);
        })
        (subst (λ ts. Runs start base finished ts new.reads) (ap (with_named (tasks_of old.tasks) name) (sym (came_task to.item to.related came.machine came.given_so leaves.depth)))
        (answers_keep_runs start base finished (tasks_of old.tasks) old.reads new.reads run.runs name t.log log (levels_below t.log.depth) t.knows.keys moved.body moved.values moved.answers
        (members.there start at base finished old new name moved (halt.Ask asked place) (going_at moved) run is move stays_so ∙ ap Some (members.was_there start at base finished old new name moved (halt.Ask asked place) (going_at moved) run is move stays_so))
        (run.members name t is.there).actor asked place given move.halts_so reply all read))
      where
        came_task : (t' : Task) → t' ≡ record t { log = log; stage = kept.Going came.machine } → (machine : Evaluation) → IsGiven moved given machine → log.depth ≡ t.log.depth
            → tree_task t' ≡ in_tree log (levels_below t.log.depth) t.knows.keys (Going moved.body moved.values (moved.answers ++ given ∷ []))
        came_task t' related machine so depth = ap tree_task related
            ∙ (λ i. in_tree log (levels_below (depth i)) t.knows.keys (Going (came.given_so.same.body i) (came.given_so.same.values i) (came.given_so.answers i)))

    pub acted : (refs : Name → Option Datum) (found : Stepped) → ((ref : Name) → refs ref ≡ base ref) → IsActed refs name moved asked old.tasks old.reads new.tasks new.reads found → IsRun start at base finished new
    acted refs found same did = on did.reply (sym (replies_by refs base t.log asked same) ∙ did.replies_so t is.there) did.came
      where
        on : (reply : Answered) → replies base t.log asked ≡ Some (reply, did.log) → CameReply name moved asked reply did.log old.tasks old.reads new.tasks new.reads found → IsRun start at base finished new
        on (answered.Now given) reply came = replied given did.log found reply came
        on (answered.NotInSnapshot ref) reply came = waited (halt.Ask asked place) move _ found came.waiting came.reads_so
