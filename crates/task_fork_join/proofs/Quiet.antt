-- A step that forks, that waits for a ref, or that another task takes adds nothing to what a task has done.
use Rattle.std.proofs.Common.{◌≡◌, ◌∙◌, Bool, true, false, cond, List, refl, sym, ap, subst}
use Rattle.std.specs.Prelude.{Option, None, Some}
use Rattle.core_syntax.specs.declared.node_id.NodeId.{NodeId}
use Rattle.eval_step.specs.Evaluation.{Evaluation}
use Rattle.serial_model.specs.declared.answer.Answer.{Answer}
use Rattle.serial_model.specs.declared.halt.Halt.{Halt}
use Rattle.serial_model.specs.declared.halt.Halt.TheVariants as halt
use Rattle.serial_model.specs.declared.request.Request.{Request}
use Rattle.serial_model.specs.declared.request.Request.TheVariants as request
use Rattle.task_fork_join.specs.Attempt.{Attempt}
use Rattle.task_fork_join.specs.Closing.{CameClose, IsClose}
use Rattle.task_fork_join.specs.declared.closing.Went.{Went}
use Rattle.task_fork_join.specs.declared.closing.Went.TheVariants as went_as
use Rattle.task_fork_join.specs.declared.joining.Met.{Met}
use Rattle.task_fork_join.specs.declared.joining.Met.TheVariants as met
use Rattle.task_fork_join.specs.declared.stepped.Stepped.{Stepped}
use Rattle.task_fork_join.specs.declared.stepped.Stepped.TheVariants as stepped
use Rattle.task_fork_join.specs.declared.task.Stage.{Stage}
use Rattle.task_fork_join.specs.declared.task.Stage.TheVariants as kept
use Rattle.task_fork_join.specs.declared.task.Task.{Task}
use Rattle.task_fork_join.specs.declared.task_end.TaskEnd.{TaskEnd}
use Rattle.task_fork_join.specs.Forking as forking
use Rattle.task_fork_join.specs.Forking.{CameFork}
use Rattle.task_fork_join.specs.Joining.{CameJoin, CamePlain, IsEnded, IsJoin}
use Rattle.task_fork_join.specs.Step.{Asks, Comes}
use Rattle.task_fork_join.specs.Stepping.{CameReply, IsActed, IsAnswered, IsWaiting}
use Rattle.txn_snapshot.specs.declared.answered.Answered.{Answered}
use Rattle.txn_snapshot.specs.declared.answered.Answered.TheVariants as answered
use Rattle.txn_snapshot.specs.SnapshotTask.{SnapshotTask}
use Rattle.value_core.proofs.NamedLaws.{named-with_named, same_name-equal}
use Rattle.value_core.specs.declared.value.Value.{Value}
use Rattle.value_core.specs.Named.{Name, Named, named, same_name, with_named, IsChangedTo}

-- whether the step may add to what its task has done
abbrev pub is_loud : Stepped → Bool
is_loud stepped.Now = true
is_loud (stepped.WaitJoin f) = true
is_loud stepped.Finished = true
is_loud (stepped.Forked child) = false
is_loud (stepped.NotInSnapshot ref) = false

-- the task is there still, and has done what it had
pub record HasStayed (tasks : Named Task) (n : Name) (t : Task) : Type 0 where
  pub after : Task
  pub there : named n tasks ≡ Some after
  pub same : after.log.log.effects ≡ t.log.log.effects

-- so has each task that took no step, or one that is not loud
abbrev pub AllStay : Name → Stepped → Named Task → Named Task → Type 0
AllStay name went old new = (n : Name) (t : Task) → named n old ≡ Some t → (n ≡ name → is_loud went ≡ false) → HasStayed new n t

module _ (name : Name) (went : Stepped) (tasks new : Named Task) (t : Task) (there : named name tasks ≡ Some t) where
  -- the task alone has changed
  alone : (R : Task → Task → Type 0) → IsChangedTo name tasks new R t → ((k : Task) → R t k → is_loud went ≡ false → k.log.log.effects ≡ t.log.log.effects) → AllStay name went tasks new
  alone R to same n k is quiet = on (same_name n name) refl
    where
      on : (c : Bool) → same_name n name ≡ c → HasStayed new n k
      on true e =
          let both : Some t ≡ Some k = sym there ∙ ap (λ q. named q tasks) (sym (same_name-equal n name e)) ∙ is in
          let one : t ≡ k = cc in record {
            after = to.item;
            there = ap (named n) to.put ∙ named-with_named n name to.item tasks ∙ ap (λ c. cond c (Some to.item) (named n tasks)) e;
            same = same to.item to.related (quiet (same_name-equal n name e)) ∙ ap (λ (x : Task). x.log.log.effects) one;
          }
      on false e = record { after = k; there = ap (named n) to.put ∙ named-with_named n name to.item tasks ∙ ap (λ c. cond c (Some to.item) (named n tasks)) e ∙ is; same = refl }

  -- with the same log
  same-log : (stage : Stage) → IsChangedTo name tasks new (λ x y. y ≡ record x { stage = stage }) t → AllStay name went tasks new
  same-log stage to = alone (λ x y. y ≡ record x { stage = stage }) to (λ k e quiet. ap (λ (x : Task). x.log.log.effects) e)

  -- by a loud step
  loudly : (R : Task → Task → Type 0) → is_loud went ≡ true → IsChangedTo name tasks new R t → AllStay name went tasks new
  loudly R loud to = alone R to (λ k e quiet. let no : true ≡ false = sym loud ∙ quiet in cc)

  answered-stays : (moved : Evaluation) (given : Answer) → IsAnswered name moved given tasks new went → AllStay name went tasks new
  answered-stays moved given is = same-log (kept.Going is.machine) (is.tasks t there)

  waiting-stays : (moved : Evaluation) (w : Stepped) → IsWaiting name moved w tasks new went → AllStay name went tasks new
  waiting-stays moved w is = same-log (kept.Going moved) (is.tasks t there)

  ended-stays : (ended : TaskEnd) → IsEnded name ended tasks new went → AllStay name went tasks new
  ended-stays ended is = same-log (kept.Ended ended) (is.tasks t there)

  acted-stays : (refs : Name → Option Value) (moved : Evaluation) (asked : Request) (reads more : List Name) → IsActed refs name moved asked tasks reads new more went → AllStay name went tasks new
  acted-stays refs moved asked reads more is = on is.reply is.came
    where
      on : (reply : Answered) → CameReply name moved asked reply is.log tasks reads new more went → AllStay name went tasks new
      on (answered.Now given) came = loudly (λ x y. y ≡ record x { log = is.log; stage = kept.Going came.machine }) (ap is_loud came.now) (came.tasks t there)
      on (answered.NotInSnapshot ref) came = waiting-stays moved _ came.waiting

  plain-stays : (moved : Evaluation) (f : Name) (o : Option Value) → CamePlain name moved f o tasks new went → AllStay name went tasks new
  plain-stays moved f (Some v) is = answered-stays moved _ is
  plain-stays moved f None is = waiting-stays moved _ is

  join-stays : (moved : Evaluation) (f : Name) (outer : Option Value) → IsJoin name moved f outer tasks new went → AllStay name went tasks new
  join-stays moved f outer is = by is.meets is.came
    where
      by : (m : Met) → CameJoin name moved f outer m tasks new went → AllStay name went tasks new
      by met.Unknown came = plain-stays moved f outer came
      by met.Unfinished came = waiting-stays moved _ came
      by (met.First joined) came = loudly (λ x y. y ≡ record { log = joined.parts.log; knows = joined.parts.knows; stage = kept.Going came.machine }) (ap is_loud came.now) (came.tasks t there)
      by (met.Again v) came = answered-stays moved _ came
      by (met.Ended e) came = ended-stays e came

  close-stays : (moved : Evaluation) (v : Value) → IsClose name moved v tasks new went → AllStay name went tasks new
  close-stays moved v is = on is.closed.went is.came
    where
      on : (w : Went) → CameClose name moved v is.closed.parts w tasks new went → AllStay name went tasks new
      on went_as.On came = loudly _ (ap is_loud came.finished) (came.tasks t there)
      on (went_as.Ended e) came = loudly _ (ap is_loud came.finished) (came.tasks t there)
      on (went_as.Waits f n) came = loudly _ (ap is_loud came.waits) (came.tasks t there)

module _ (name : Name) (went : Stepped) (tasks new : Named Task) (t : Task) (there : named name tasks ≡ Some t) where
  fork-stays : (moved : Evaluation) (actor : Option Name) (fuel : _) (body : NodeId) (values : List Value) → CameFork name moved actor fuel body values tasks new went → AllStay name went tasks new
  fork-stays moved actor fuel body values (forking.refused is) = answered-stays name went tasks new t there moved _ is.given
  fork-stays moved actor fuel body values (forking.forks is) = λ n k at quiet.
      alone name went with_child new t (mid name t there) (λ x y. y ≡ record { log = is.fork.parent.log; knows = is.fork.parent.knows; stage = kept.Going is.put.machine }) (is.put.tasks t (mid name t there))
      (λ x e so. ap (λ (y : Task). y.log.log.effects) e ∙ ap (λ (l : SnapshotTask). l.log.effects) (is.forks t there).1.parent_log) n k (mid n k at) quiet
    where
      begun : Task
      begun = record { log = is.fork.child.log; knows = is.fork.child.knows; stage = kept.Going is.child }

      with_child : Named Task
      with_child = with_named tasks is.fork.future begun

      -- a task that was there is no child
      mid : (n : Name) (k : Task) → named n tasks ≡ Some k → named n with_child ≡ Some k
      mid n k at = named-with_named n is.fork.future begun tasks ∙ on (same_name n is.fork.future) refl
        where
          on : (c : Bool) → same_name n is.fork.future ≡ c → cond c (Some begun) (named n tasks) ≡ Some k
          on true e = let no : None ≡ Some k = sym is.put.fresh ∙ ap (λ q. named q tasks) (sym (same_name-equal n is.fork.future e)) ∙ at in cc
          on false e = at

-- so it is for each step
module _ (refs : Name → Option Value) (name : Name) (moved : Evaluation) (outer : Option Value) (old new : Attempt) (went : Stepped) (t : Task) (there : named name old.tasks ≡ Some t) where
  act-stays : (asked : Request) → IsActed refs name moved asked old.tasks old.reads new.tasks new.reads went → AllStay name went old.tasks new.tasks
  act-stays asked is = acted-stays name went old.tasks new.tasks t there refs moved asked old.reads new.reads is

  asks-stay : (asked : Request) → Asks refs name moved outer asked old new went → AllStay name went old.tasks new.tasks
  asks-stay (request.Fork body values) is = fork-stays name went old.tasks new.tasks t there moved old.actor old.fuel body values is.does
  asks-stay (request.Join f) is = join-stays name went old.tasks new.tasks t there moved f outer is.does
  asks-stay (request.Dosync body values) is = absurd is
  asks-stay (request.Print text) is = act-stays (request.Print text) is
  asks-stay (request.NewRef v) is = act-stays (request.NewRef v) is
  asks-stay (request.Deref ref) is = act-stays (request.Deref ref) is
  asks-stay (request.RefSet ref v) is = act-stays (request.RefSet ref v) is
  asks-stay (request.Spawn n args) is = act-stays (request.Spawn n args) is
  asks-stay (request.Send a args) is = act-stays (request.Send a args) is
  asks-stay (request.Become n args) is = act-stays (request.Become n args) is
  asks-stay request.SelfActor is = act-stays request.SelfActor is

  pub steps-stay : (h : Halt) → Comes refs name moved outer h old new went → AllStay name went old.tasks new.tasks
  steps-stay (halt.Ask asked at) is = asks-stay asked is
  steps-stay (halt.Value v) is = close-stays name went old.tasks new.tasks t there moved v is.does
  steps-stay (halt.Fault code at) is = ended-stays name went old.tasks new.tasks t there _ is.does
  steps-stay halt.Spent is = ended-stays name went old.tasks new.tasks t there _ is.does
