-- Tasks that have ended, in an attempt whose root has.
use Rattle.std.proofs.Common.{◌≡◌, ◌∷◌, ℕ, List, [], length, take, drop, true, false, ap, refl, sym, subst}
use Rattle.std.specs.Option.{IsSome, option_map}
use Rattle.std.specs.Prelude.{Err, IfSome, None, Ok, Option, Result, Some, is_some}
use Rattle.std.specs.declared.alloc.AllocError.{AllocError}
use Rattle.eval_step.specs.Evaluation.{Evaluation}
use Rattle.serial_model.specs.declared.halt.Halt.{Halt}
use Rattle.shared_world.specs.declared.given.Given.{Given}
use Rattle.shared_world.specs.Gave.{GaveTask}
use Rattle.shared_world.specs.Ahead.{Ahead}
use Rattle.shared_world.specs.rows.Sending.{Send, sends_in}
use Rattle.shared_world.specs.rows.Tasks.{RootGives, StepPosts, TaskGives}
use Rattle.shared_world.specs.Seen.{done_by_root}
use Rattle.shared_world.specs.Shared.{Shared, is_going}
use Rattle.task_fork_join.specs.Attempt.{Attempt, end_at, machine_of, next_made_at}
use Rattle.task_fork_join.specs.declared.task.Task.{Task}
use Rattle.task_fork_join.specs.declared.task_end.TaskEnd.{TaskEnd}
use Rattle.value_core.specs.Named.{Name, made_by, named}
use Rattle.attempt_commits.proofs.Committing.{at-attempt}
use Rattle.attempt_steps.proofs.Posted.{drop-none}
use Rattle.shared_world.proofs.Standing.{root-in}
use Rattle.attempt_steps.proofs.Wanting.{settling-wanting}
use Rattle.shared_world.specs.Stands.{Stands}
use Rattle.attempt_deciding.specs.TaskAt.{IsTaskIn}
use Rattle.attempt_steps.specs.Tasks.{DecidedOrWaits, HasDecidedAt, IsOwned, IsTaskOf, TaskCame}
use Rattle.attempts_gone.specs.Dropping.{HasAttempt}

among-made : (tree : Attempt) (task next : Name) → next_made_at tree task ≡ Some next → is_some (named task tree.tasks) ≡ true
among-made tree task next is = on (named task tree.tasks) is
  where
    on : (o : Option Task) → option_map (λ (t : Task). made_by t.log.log.name t.log.log.made) o ≡ Some next → is_some o ≡ true
    on None e = cc
    on (Some t) e = refl

some-end : (o : Option TaskEnd) → true ≡ is_some o → (P : Type 0) → ((e : TaskEnd) → o ≡ Some e → P) → P
some-end None is P all = cc
some-end (Some e) is P all = all e refl

-- a root that is not at its end
pub open-of : (o : Option Attempt) → IfSome o (λ tree. false ≡ is_some (end_at tree)) → IfSome o (λ tree. end_at tree ≡ None)
open-of None is = is
open-of (Some tree) is = on (end_at tree) refl is
  where
    on : (e : Option TaskEnd) → end_at tree ≡ e → false ≡ is_some e → end_at tree ≡ None
    on None so e = so
    on (Some ended) so e = cc

-- What comes of the attempt of a task, whose root is at its end and has done no more than so much.
module _ (old new : Shared) (owner task : Name) (tree : Attempt) (e : TaskEnd) (found : Given) (is : IsTaskIn old owner task tree) (ended : end_at tree ≡ Some e) (before : ℕ) (so_much : before ≡ length (done_by_root tree)) (r : HasDecidedAt old owner task before new found) where
  -- nothing is posted then
  unposted : (ahead : Option Ahead) (more : List Send) → more ≡ [] → StepPosts (Some e) ahead old owner tree.root (sends_in (take before (done_by_root tree))) more r.posted → r.posted ≡ old
  unposted None more none is = is
  unposted (Some h) [] none is = is
  unposted (Some h) (m ∷ more) none is = cc

  same : r.posted ≡ old
  same = unposted (named owner old.aheads) (sends_in (drop before (done_by_root tree))) (ap sends_in (drop-none before (done_by_root tree) (sym so_much)))
      (subst (λ o. StepPosts o (named owner old.aheads) old owner tree.root (sends_in (take before (done_by_root tree))) (sends_in (drop before (done_by_root tree))) r.posted) ended (r.posts tree is.attempt))

  pub ended-came : GaveTask old task found new
  ended-came = record {
    owner = owner;
    unit = is.unit;
    tree = tree;
    mark = is.mark;
    there = is.there;
    of = is.of;
    unit_there = is.unit_there;
    attempt = is.attempt;
    gives = subst (λ o. TaskGives old owner is.unit task tree o (machine_of tree task) found new) (sym ended) (subst (λ (s : Shared). RootGives s owner is.unit task tree e found new) same (r.row is.unit tree e is.unit_there is.attempt ended));
    claims = r.claims;
  }

-- so it is for a task that goes on
pub step-ended : (old new : Shared) (owner task : Name) (moved : Evaluation) (h : Halt) (before : ℕ) (result : Result Given AllocError) → Stands old → IsTaskOf old owner task moved h → IfSome (named owner old.attempts) (λ tree. IsSome (named tree.root tree.tasks) → before ≡ length (done_by_root tree))
    → IfSome (named owner old.attempts) (λ tree. true ≡ is_some (end_at tree)) → DecidedOrWaits old owner task before new result → TaskCame old task new result
step-ended old new owner task moved h before (Err e) st is so_much ended r = settling-wanting old new task is.task_in.mark st is.task_in.there r
step-ended old new owner task moved h before (Ok found) st is so_much ended r =
    some-end (end_at is.tree) (at-attempt (named owner old.attempts) (λ (t : Attempt). true ≡ is_some (end_at t)) is.tree is.task_in.attempt ended) (TaskCame old task new (Ok found))
    (λ e so. ended-came old new owner task is.tree e found is.task_in so before (at-attempt (named owner old.attempts) (λ (t : Attempt). IsSome (named t.root t.tasks) → before ≡ length (done_by_root t)) is.tree is.task_in.attempt so_much is.task_in.rooted) (r is.tree e is.task_in.attempt so))

-- the root of an attempt is there
pub rooted-of : (s : Shared) → Stands s → is_going s.end ≡ true → (u : Name) (tree : Attempt) → named u s.attempts ≡ Some tree → IsSome (named tree.root tree.tasks)
rooted-of s st going u tree there = let is = root-in s u tree (st.attempts going u tree there) in subst IsSome (sym is.1) refl

-- a task of an attempt that is there, which has made a name
pub owned-task : (old : Shared) → Stands old → is_going old.end ≡ true → (owner task next : Name) (owned : IsOwned old task owner) → IfSome (named owner old.attempts) (λ tree. next_made_at tree task ≡ Some next) → IsTaskIn old owner task owned.has.tree
owned-task old st going owner task next owned made = record {
  mark = owned.at.mark;
  there = owned.at.there;
  of = owned.of;
  unit = owned.has.unit;
  unit_there = owned.has.there;
  attempt = owned.has.attempt;
  among = among-made owned.has.tree task next (at-attempt (named owner old.attempts) (λ (t : Attempt). next_made_at t task ≡ Some next) owned.has.tree owned.has.attempt made);
  rooted = rooted-of old st going owner owned.has.tree owned.has.attempt;
}

pub settled-task : (old new : Shared) (owner task next : Name) (before : ℕ) (result : Result Given AllocError) → Stands old → is_going old.end ≡ true → IsOwned old task owner → IfSome (named owner old.attempts) (λ tree. next_made_at tree task ≡ Some next)
    → IfSome (named owner old.attempts) (λ tree. IsSome (named tree.root tree.tasks) → before ≡ length (done_by_root tree)) → IfSome (named owner old.attempts) (λ tree. true ≡ is_some (end_at tree)) → DecidedOrWaits old owner task before new result → TaskCame old task new result
settled-task old new owner task next before (Err e) st going owned made so_much ended r = settling-wanting old new task owned.at.mark st owned.at.there r
settled-task old new owner task next before (Ok found) st going owned made so_much ended r =
    some-end (end_at owned.has.tree) (at-attempt (named owner old.attempts) (λ (t : Attempt). true ≡ is_some (end_at t)) owned.has.tree owned.has.attempt ended) (TaskCame old task new (Ok found))
    (λ e is.
    ended-came old new owner task owned.has.tree e found (owned-task old st going owner task next owned made) is before (at-attempt (named owner old.attempts) (λ (t : Attempt). IsSome (named t.root t.tasks) → before ≡ length (done_by_root t)) owned.has.tree owned.has.attempt so_much (rooted-of old st going owner owned.has.tree owned.has.attempt))
    (r owned.has.tree e owned.has.attempt is))
