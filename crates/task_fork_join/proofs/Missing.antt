-- A step of a task that waits for a ref: the snapshot does not have it.
use Rattle.std.proofs.Common.{◌≡◌, ◌∙◌, refl, sym, ap, subst}
use Rattle.std.specs.Option.{option_map, option_or}
use Rattle.std.specs.Prelude.{Option, None, Some}
use Rattle.eval_step.specs.Evaluation.{Evaluation}
use Rattle.serial_model.specs.Ahead.{answer_ahead}
use Rattle.serial_model.specs.declared.answer.Answer.{Answer}
use Rattle.serial_model.specs.declared.halt.Halt.{Halt}
use Rattle.serial_model.specs.declared.halt.Halt.TheVariants as halt
use Rattle.serial_model.specs.declared.request.Request.{Request}
use Rattle.serial_model.specs.declared.request.Request.TheVariants as request
use Rattle.task_fork_join.specs.Attempt.{Attempt}
use Rattle.task_fork_join.specs.Closing.{CameClose}
use Rattle.task_fork_join.specs.declared.closing.Went.{Went}
use Rattle.task_fork_join.specs.declared.closing.Went.TheVariants as went
use Rattle.task_fork_join.specs.declared.joining.Met.{Met}
use Rattle.task_fork_join.specs.declared.joining.Met.TheVariants as met
use Rattle.task_fork_join.specs.declared.stepped.Stepped.TheVariants as stepped
use Rattle.task_fork_join.specs.declared.task.Task.{Task}
use Rattle.task_fork_join.specs.Forking as forking
use Rattle.task_fork_join.specs.Forking.{CameFork}
use Rattle.task_fork_join.specs.Joining.{CameJoin, CamePlain}
use Rattle.task_fork_join.specs.Step.{Comes, IsStep}
use Rattle.task_fork_join.specs.Stepping.{CameReply, IsActed}
use Rattle.txn_snapshot.specs.declared.answered.Answered.{Answered}
use Rattle.txn_snapshot.specs.declared.answered.Answered.TheVariants as answered
use Rattle.txn_snapshot.specs.SnapshotAnswer.{Reply, acts, answer_of, reads_ref, replies, sets_ref}
use Rattle.txn_snapshot.specs.SnapshotTask.{SnapshotTask, private}
use Rattle.value_core.specs.declared.value.Value.{Value}
use Rattle.value_core.specs.Named.{Name, made_by, named}

-- the answer of a task's log that names a ref
module _ (refs : Name → Option Value) (task : SnapshotTask) (ref : Name) (log : SnapshotTask) where
  abbrev Misses : Option Reply → Type 0
  Misses reply = option_map answer_of reply ≡ Some (answered.NotInSnapshot ref)

  reads-none : (r : Name) (own there : Option Value) → refs r ≡ there → Misses (Some (reads_ref task r own there)) → refs ref ≡ None
  reads-none r (Some v) there is missed = cc
  reads-none r None (Some v) is missed = cc
  reads-none r None None is missed = let same : r ≡ ref = cc in subst (λ n. refs n ≡ None) same is

  sets-none : (r : Name) (v : Value) (own there : Option Value) → refs r ≡ there → Misses (Some (sets_ref task r v (option_or own there))) → refs ref ≡ None
  sets-none r v (Some w) there is missed = cc
  sets-none r v None (Some w) is missed = cc
  sets-none r v None None is missed = let same : r ≡ ref = cc in subst (λ n. refs n ≡ None) same is

  acts-none : (asked : Request) (given : Option Answer) → Misses (option_map (acts task asked) given) → refs ref ≡ None
  acts-none asked None missed = cc
  acts-none asked (Some given) missed = cc

  abbrev ahead : Request → Option Answer
  ahead asked = answer_ahead task.actor (made_by task.log.name task.log.made) asked

  reply-none : (asked : Request) → Misses (replies refs task asked) → refs ref ≡ None
  reply-none (request.Deref r) missed = reads-none r (private task r) (refs r) refl missed
  reply-none (request.RefSet r v) missed = sets-none r v (private task r) (refs r) refl missed
  reply-none (request.Fork body values) missed = cc
  reply-none (request.Print text) missed = acts-none (request.Print text) (ahead (request.Print text)) missed
  reply-none (request.NewRef v) missed = acts-none (request.NewRef v) (ahead (request.NewRef v)) missed
  reply-none (request.Join future) missed = acts-none (request.Join future) None missed
  reply-none (request.Dosync body values) missed = acts-none (request.Dosync body values) None missed
  reply-none (request.Spawn behaviour state) missed = acts-none (request.Spawn behaviour state) (ahead (request.Spawn behaviour state)) missed
  reply-none (request.Send to message) missed = acts-none (request.Send to message) (ahead (request.Send to message)) missed
  reply-none (request.Become behaviour state) missed = acts-none (request.Become behaviour state) (ahead (request.Become behaviour state)) missed
  reply-none request.SelfActor missed = acts-none request.SelfActor (ahead request.SelfActor) missed

-- a step of a task of the attempt that waits for that ref
module _ (refs : Name → Option Value) (name : Name) (moved : Evaluation) (outer : Option Value) (ref : Name) (old new : Attempt) (task : Task) (there : named name old.tasks ≡ Some task) where
  fork-none : (body : _) (values : _) → CameFork name moved old.actor old.fuel body values old.tasks new.tasks (stepped.NotInSnapshot ref) → refs ref ≡ None
  fork-none body values (forking.forks is) = let no = is.put.forked in cc
  fork-none body values (forking.refused is) = let no = is.given.now in cc

  plain-none : (future : Name) (value : Option Value) → CamePlain name moved future value old.tasks new.tasks (stepped.NotInSnapshot ref) → refs ref ≡ None
  plain-none future None is = let no = is.waits in cc
  plain-none future (Some v) is = let no = is.now in cc

  join-none : (future : Name) (meets : Met) → CameJoin name moved future outer meets old.tasks new.tasks (stepped.NotInSnapshot ref) → refs ref ≡ None
  join-none future met.Unknown is = plain-none future outer is
  join-none future met.Unfinished is = let no = is.waits in cc
  join-none future (met.First joined) is = let no = is.now in cc
  join-none future (met.Again v) is = let no = is.now in cc
  join-none future (met.Ended e) is = let no = is.finished in cc

  close-none : (v : Value) (parts : _) (end : Went) → CameClose name moved v parts end old.tasks new.tasks (stepped.NotInSnapshot ref) → refs ref ≡ None
  close-none v parts went.On is = let no = is.finished in cc
  close-none v parts (went.Waits future next) is = let no = is.waits in cc
  close-none v parts (went.Ended e) is = let no = is.finished in cc

  acted-none : (asked : Request) → IsActed refs name moved asked old.tasks old.reads new.tasks new.reads (stepped.NotInSnapshot ref) → refs ref ≡ None
  acted-none asked is = on is.reply is.came (is.replies_so task there)
    where
      on : (reply : Answered) → CameReply name moved asked reply is.log old.tasks old.reads new.tasks new.reads (stepped.NotInSnapshot ref) → replies refs task.log asked ≡ Some (reply, is.log) → refs ref ≡ None
      on (answered.Now given) came so = let no = came.now in cc
      on (answered.NotInSnapshot r) came so =
          let waits = came.waiting.waits in
          let same : r ≡ ref = cc in
          reply-none refs task.log ref is.log asked (ap (option_map answer_of) so ∙ ap (λ n. Some (answered.NotInSnapshot n)) same)

  comes-none : (h : Halt) → Comes refs name moved outer h old new (stepped.NotInSnapshot ref) → refs ref ≡ None
  comes-none (halt.Ask (request.Fork body values) at) is = fork-none body values is.does
  comes-none (halt.Ask (request.Join future) at) is = join-none future is.does.meets is.does.came
  comes-none (halt.Ask (request.Dosync body values) at) is = absurd is
  comes-none (halt.Ask (request.Print text) at) is = acted-none (request.Print text) is
  comes-none (halt.Ask (request.NewRef v) at) is = acted-none (request.NewRef v) is
  comes-none (halt.Ask (request.Deref r) at) is = acted-none (request.Deref r) is
  comes-none (halt.Ask (request.RefSet r v) at) is = acted-none (request.RefSet r v) is
  comes-none (halt.Ask (request.Spawn behaviour state) at) is = acted-none (request.Spawn behaviour state) is
  comes-none (halt.Ask (request.Send to message) at) is = acted-none (request.Send to message) is
  comes-none (halt.Ask (request.Become behaviour state) at) is = acted-none (request.Become behaviour state) is
  comes-none (halt.Ask request.SelfActor at) is = acted-none request.SelfActor is
  comes-none (halt.Value v) is = close-none v is.does.closed.parts is.does.closed.went is.does.came
  comes-none (halt.Fault code at) is = let no = is.does.finished in cc
  comes-none halt.Spent is = let no = is.does.finished in cc

  pub missing-none : (h : Halt) → IsStep refs name moved outer h old new (stepped.NotInSnapshot ref) → refs ref ≡ None
  missing-none h step = comes-none h step.comes
