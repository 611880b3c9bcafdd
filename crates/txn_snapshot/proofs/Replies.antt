-- What a reply leaves of a task.
use Rattle.std.proofs.Common.{◌≡◌, ◌∙◌, ◌≤◌, Bool, true, false, List, Option, Some, None, refl, ap, subst, arith}
use Rattle.std.specs.Option.{option_map, option_or}
use Rattle.std.specs.Prelude.{◌||◌}
use Rattle.serial_model.specs.Ahead.{answer_ahead}
use Rattle.serial_model.specs.declared.answer.Answer.{Answer}
use Rattle.serial_model.specs.declared.request.Request.{Request}
use Rattle.serial_model.specs.declared.request.Request.TheVariants as request
use Rattle.serial_model.specs.Log.{Log, with_write}
use Rattle.serial_model.specs.Task.{done_by}
use Rattle.txn_snapshot.specs.declared.answered.Answered.{Answered}
use Rattle.txn_snapshot.specs.Reads.{with_read}
use Rattle.txn_snapshot.specs.SnapshotAnswer.{Reply, acts, reads_ref, replies, sets_ref}
use Rattle.txn_snapshot.specs.SnapshotTask.{SnapshotTask, private, with_log, AreAmong, Stays}
use Rattle.shared_map.proofs.NameLaws.{among-with_member}
use Rattle.value_core.specs.declared.value.Value.{Value as Datum}
use Rattle.value_core.specs.Named.{Name, made_by, same_name}

pub same_reply : (one other : Reply) → Some one ≡ Some other → one ≡ other
same_reply one other is = cc

-- what a request leaves of the log
record Grows (old new : Log) : Type 0 where
  name : new.name ≡ old.name
  joined : new.joined ≡ old.joined
  made : old.made ≤ new.made

done_grows : (actor : Option Name) (log : Log) (asked : Request) → Grows log (done_by actor log asked)
done_grows actor log (request.Print text) = record { name = refl; joined = refl; made = omega arith }
done_grows actor log (request.NewRef v) = record { name = refl; joined = refl; made = omega arith }
done_grows actor log (request.Deref ref) = record { name = refl; joined = refl; made = omega arith }
done_grows actor log (request.RefSet ref v) = record { name = refl; joined = refl; made = omega arith }
done_grows actor log (request.Fork body values) = record { name = refl; joined = refl; made = omega arith }
done_grows actor log (request.Join future) = record { name = refl; joined = refl; made = omega arith }
done_grows actor log (request.Dosync body values) = record { name = refl; joined = refl; made = omega arith }
done_grows actor log (request.Spawn behaviour state) = record { name = refl; joined = refl; made = omega arith }
done_grows actor log (request.Send to message) = record { name = refl; joined = refl; made = omega arith }
done_grows None log (request.Become behaviour state) = record { name = refl; joined = refl; made = omega arith }
done_grows (Some a) log (request.Become behaviour state) = record { name = refl; joined = refl; made = omega arith }
done_grows actor log request.SelfActor = record { name = refl; joined = refl; made = omega arith }

logged_stays : (task : SnapshotTask) (log : Log) → Grows task.log log → Stays task (with_log task log)
logged_stays task log grows = record {
  name = grows.name;
  base = refl;
  depth = refl;
  actor = refl;
  joined = grows.joined;
  made = grows.made;
  reads = λ ref there. there;
}

itself : (task : SnapshotTask) → Stays task task
itself task = logged_stays task task.log (record { name = refl; joined = refl; made = omega arith })

still_read : (reads : List Name) (k : Name) → AreAmong reads (with_read reads k)
still_read reads k ref there = among-with_member ref reads k ∙ ap (λ b. same_name ref k || b) there ∙ or_true (same_name ref k)
  where
    or_true : (b : Bool) → (b || true) ≡ true
    or_true true = refl
    or_true false = refl

pub reading_stays : (task : SnapshotTask) (ref : Name) (own stored : Option Datum) → Stays task (reads_ref task ref own stored).1
reading_stays task ref (Some v) stored = itself task
reading_stays task ref None (Some v) = record {
  name = refl;
  base = refl;
  depth = refl;
  actor = refl;
  joined = refl;
  made = omega arith;
  reads = still_read task.reads ref;
}
reading_stays task ref None None = itself task

setting_stays : (task : SnapshotTask) (ref : Name) (v : Datum) (found : Option Datum) → Stays task (sets_ref task ref v found).1
setting_stays task ref v (Some old) = logged_stays task (with_write task.log ref v) (done_grows None task.log (request.RefSet ref v))
setting_stays task ref v None = itself task

acting_stays : (task : SnapshotTask) (asked : Request) (ahead : Option Answer) (reply : Reply) → option_map (acts task asked) ahead ≡ Some reply → Stays task reply.1
acting_stays task asked None reply is = absurd (cc)
acting_stays task asked (Some x) reply is =
    subst (λ (r : Reply). Stays task r.1) (same_reply (acts task asked x) reply is) (logged_stays task (done_by task.actor task.log asked) (done_grows task.actor task.log asked))

abbrev ahead_of : SnapshotTask → Request → Option Answer
ahead_of task asked = answer_ahead task.actor (made_by task.log.name task.log.made) asked

reply_stays : (snapshot : Name → Option Datum) (task : SnapshotTask) (asked : Request) (reply : Reply) → replies snapshot task asked ≡ Some reply → Stays task reply.1
reply_stays snapshot task (request.Print text) reply is = acting_stays task (request.Print text) (ahead_of task (request.Print text)) reply is
reply_stays snapshot task (request.NewRef v) reply is = acting_stays task (request.NewRef v) (ahead_of task (request.NewRef v)) reply is
reply_stays snapshot task (request.Deref ref) reply is =
    subst (λ (r : Reply). Stays task r.1) (same_reply (reads_ref task ref (private task ref) (snapshot ref)) reply is) (reading_stays task ref (private task ref) (snapshot ref))
reply_stays snapshot task (request.RefSet ref v) reply is =
    let found = option_or (private task ref) (snapshot ref) in
    subst (λ (r : Reply). Stays task r.1) (same_reply (sets_ref task ref v found) reply is) (setting_stays task ref v found)
reply_stays snapshot task (request.Fork body values) reply is = absurd (cc)
reply_stays snapshot task (request.Join future) reply is = absurd (cc)
reply_stays snapshot task (request.Dosync body values) reply is = absurd (cc)
reply_stays snapshot task (request.Spawn behaviour state) reply is = acting_stays task (request.Spawn behaviour state) (ahead_of task (request.Spawn behaviour state)) reply is
reply_stays snapshot task (request.Send to message) reply is = acting_stays task (request.Send to message) (ahead_of task (request.Send to message)) reply is
reply_stays snapshot task (request.Become behaviour state) reply is = acting_stays task (request.Become behaviour state) (ahead_of task (request.Become behaviour state)) reply is
reply_stays snapshot task request.SelfActor reply is = acting_stays task request.SelfActor (ahead_of task request.SelfActor) reply is

pub stays : (snapshot : Name → Option Datum) (task after : SnapshotTask) (asked : Request) (found : Answered) → replies snapshot task asked ≡ Some (found, after) → Stays task after
stays snapshot task after asked found is = reply_stays snapshot task asked (found, after) is
