-- The joins at the value of a task.
use Rattle.std.proofs.Common.{◌≡◌, ◌∙◌, ℕ, zero, suc, ◌≤◌, ◌<◌, ◌+◌, ◌-◌, Bool, true, false, cond, List, [], ◌∷◌, ◌++◌, refl, sym, ap, subst, Option, Some, None, arith}
use Rattle.std.specs.Prelude.{◌||◌}
use Rattle.eval_step.specs.Evaluation.{Evaluation}
use Rattle.serial_model.proofs.standing.KnownTasks.{matches_same}
use Rattle.serial_model.proofs.standing.Requests as step
use Rattle.serial_model.proofs.standing.Requests.{task_at}
use Rattle.serial_model.specs.declared.halt.Halt.TheVariants as halt
use Rattle.serial_model.specs.Eval.{next}
use Rattle.serial_model.specs.Log.{Log, merged}
use Rattle.serial_model.specs.Standing.{Closing, EachTask, Ended, Going, IsAt, Stage, Start, is_there}
use Rattle.serial_model.specs.Task.{Around, Result}
use Rattle.task_fork_join.proofs.Joins.{bad, child_at, merged_so, not_there, of_both}
use Rattle.task_fork_join.proofs.Members.{among_both, stepped, StandsAt}
use Rattle.task_fork_join.proofs.Members as members
use Rattle.task_fork_join.specs.Attempt.{Attempt, levels_below, outcome_of, stage_of, tasks_of, tree_task}
use Rattle.task_fork_join.specs.Closing.{Goes, AllWent, ArePartsOf, CameClose, IsFinished, IsHeld, IsWent, StopsAt, WentAt, WentBy}
use Rattle.task_fork_join.specs.declared.closing.Went.{Went}
use Rattle.task_fork_join.specs.declared.closing.Went.TheVariants as went
use Rattle.task_fork_join.specs.declared.stepped.Stepped.{Stepped}
use Rattle.task_fork_join.specs.declared.stepped.Stepped.TheVariants as stepped_as
use Rattle.task_fork_join.specs.declared.task.Parts.{Parts}
use Rattle.task_fork_join.specs.declared.task.Stage.{Stage as KeptStage}
use Rattle.task_fork_join.specs.declared.task.Stage.TheVariants as kept
use Rattle.task_fork_join.specs.declared.task.Task.{Task}
use Rattle.task_fork_join.specs.declared.task_end.TaskEnd.{TaskEnd}
use Rattle.task_fork_join.specs.declared.task_end.TaskEnd.TheVariants as end
use Rattle.task_fork_join.specs.Joining.{known_in, IsMerged, IsNoValue}
use Rattle.task_fork_join.specs.Running.{HasMachine, IsMember, IsMove, IsRun}
use Rattle.task_fork_join.specs.Step.{Stays}
use Rattle.task_fork_join.specs.Stepping.{HasParts}
use Rattle.txn_snapshot.specs.SnapshotTask.{SnapshotTask, AreAmong}
use Rattle.value_core.proofs.NamedViews.{view_found}
use Rattle.value_core.specs.declared.value.Value.{Value as Datum}
use Rattle.task_fork_join.specs.Knowledge.{Knowledge, is_known}
use Rattle.value_core.specs.Named.{Name, Named, is_among, made_by, named, IsChanged}
use Rattle.value_core.specs.Place.{Spot}

-- so many things were passed, and this is the number of the next one
pub record HasPassed (tasks : Named Task) (from : ℕ) (old : Parts) (number : ℕ) (new : Parts) : Type 0 where
  pub count : ℕ
  pub at : number ≡ from + count
  pub within : count ≤ old.log.log.made - from
  pub goes : Goes tasks from old count new

pub none_passed : (tasks : Named Task) (from : ℕ) (old : Parts) → HasPassed tasks from old from old
none_passed tasks from old = record { count = 0; at = omega arith; within = omega arith; goes = refl }

pub one_passed : (tasks : Named Task) (from number : ℕ) (old mid new : Parts) (found : Went) → HasPassed tasks from old number mid → number < old.log.log.made → IsWent tasks number mid new found → found ≡ went.On
    → HasPassed tasks from old (number + 1) new
one_passed tasks from number old mid new found is less it on =
    let at = is.at in record {
      count = suc is.count;
      at = omega arith;
      within = omega arith;
      goes = (mid, (is.goes, subst (λ n. IsWent tasks n mid new went.On) is.at (subst (IsWent tasks number mid new) on it)));
    }

pub stops_there : (tasks : Named Task) (from number : ℕ) (old mid new : Parts) (found other : Went) → HasPassed tasks from old number mid → number < old.log.log.made → IsWent tasks number mid new found → found ≡ other
    → StopsAt tasks from old new other
stops_there tasks from number old mid new found other is less it so =
    let at = is.at in record {
      count = is.count;
      mid = mid;
      goes = is.goes;
      more = omega arith;
      last = subst (λ n. IsWent tasks n mid new other) is.at (subst (IsWent tasks number mid new) so it);
    }

-- where no thing is left, all were passed
pub all_passed : (tasks : Named Task) (from number : ℕ) (old new : Parts) → HasPassed tasks from old number new → ¬ (number < old.log.log.made) → AllWent tasks from old new went.On
all_passed tasks from number old new is none =
    let at = is.at in
    let within = is.within in
    let all : is.count ≡ old.log.log.made - from = omega (arith, at, within, none) in
    subst (λ n. Goes tasks from old n new) all is.goes

module _ (start : Start) (at : Spot) (base finished : Name → Option Datum) (old new : Attempt) (name : Name) (moved : Evaluation) (was : Stage) (run : IsRun start at base finished old) (is : StandsAt name was old.tasks) (stays_so : Stays old new)
    (reads_are : new.reads ≡ old.reads) (v : Datum) (move : IsMove start moved (halt.Value v)) (from : ℕ) (before : Parts) (of : ArePartsOf is.task before)
    (begun : (around : Around) (results : Name → Result) → next around.program moved.body moved.values true moved.answers around.fuel ≡ halt.Value v
    → IsAt around results name (task_at (levels_below is.task.log.depth) is.task.log.base is.task.knows.keys is.task.log.log was)
    → IsAt around results name (task_at (levels_below is.task.log.depth) is.task.log.base is.task.knows.keys is.task.log.log (Closing v from))) where
  abbrev t : Task
  t = is.task

  abbrev tasks : Named Task
  tasks = old.tasks

  abbrev At : Around → (Name → Result) → Parts → Stage → Type 0
  At around results parts stage = IsAt around results name (task_at (levels_below t.log.depth) t.log.base parts.knows.keys parts.log.log stage)

  -- what the joins leave of the task, and that it stands there
  record IsSound (parts : Parts) (stage : Stage) : Type 0 where
    name_is : parts.log.log.name ≡ t.log.log.name
    made_is : parts.log.log.made ≡ t.log.log.made
    base_is : parts.log.base ≡ t.log.base
    depth_is : parts.log.depth ≡ t.log.depth
    actor_is : parts.log.actor ≡ t.log.actor
    knows_in : (g : Name) → is_known parts.knows g ≡ true → is_there (tasks_of tasks) g ≡ true
    reads_in : AreAmong parts.log.reads old.reads
    stands : (around : Around) (results : Name → Result) → EachTask (IsAt around results) (tasks_of tasks) → At around results before (Closing v from) → At around results parts stage

  abbrev After : ℕ → Parts → Went → Type 0
  After k parts went.On = IsSound parts (Closing v (k + 1))
  After k parts (went.Waits future next) = IsSound parts (Closing v next)
  After k parts (went.Ended e) = IsSound parts (Ended (outcome_of e))

  -- it stands further on, and else nothing changes
  passed : (mid : Parts) (stage further : Stage) → IsSound mid stage → ((around : Around) (results : Name → Result) → EachTask (IsAt around results) (tasks_of tasks) → At around results mid stage → At around results mid further) → IsSound mid further
  passed mid stage further sound steps = record {
    name_is = sound.name_is;
    made_is = sound.made_is;
    base_is = sound.base_is;
    depth_is = sound.depth_is;
    actor_is = sound.actor_is;
    knows_in = sound.knows_in;
    reads_in = sound.reads_in;
    stands = λ around results each first. steps around results each (sound.stands around results each first);
  }

  module _ (k : ℕ) (mid : Parts) (sound : IsSound mid (Closing v k)) (less : k < t.log.log.made) where
    abbrev future : Name
    future = made_by mid.log.log.name k

    more : k < mid.log.log.made
    more = let same = sound.made_is in omega arith

    passes : (parts : Parts) (found : Went) → ((around : Around) (results : Name → Result) → EachTask (IsAt around results) (tasks_of tasks) → At around results mid (Closing v k) → At around results mid (Closing v (k + 1)))
        → (parts ≡ mid) × (found ≡ went.On) → After k parts found
    passes parts found steps is_so = subst (After k parts) (sym is_so.1) (subst (λ p. IsSound p (Closing v (k + 1))) (sym is_so.0) (passed mid (Closing v k) (Closing v (k + 1)) sound steps))

    -- it has joined it
    joined_before : is_among future mid.log.log.joined ≡ true → (around : Around) (results : Name → Result) → EachTask (IsAt around results) (tasks_of tasks) → At around results mid (Closing v k) → At around results mid (Closing v (k + 1))
    joined_before among around results each at_it = step.closes_joined around results name (levels_below t.log.depth) t.log.base mid.knows.keys mid.log.log v k at_it more among

    -- it is no task that it knows
    unknown : is_known mid.knows future ≡ false → (around : Around) (results : Name → Result) → EachTask (IsAt around results) (tasks_of tasks) → At around results mid (Closing v k) → At around results mid (Closing v (k + 1))
    unknown none around results each at_it = step.closes_unknown around results name (levels_below t.log.depth) t.log.base mid.knows.keys mid.log.log v k at_it more none

    module _ (apart : is_among future mid.log.log.joined ≡ false) (known : is_known mid.knows future ≡ true) (child : Task) (there : named future tasks ≡ Some child) where
      formed_so : child.log.log.name ≡ future
      formed_so = (run.runs.formed future (tree_task child) (view_found tree_task future tasks child there)).named_so

      child_knows : (f : Name) → is_among f child.knows.keys ≡ true → is_there (tasks_of tasks) f ≡ true
      child_knows = (run.runs.formed future (tree_task child) (view_found tree_task future tasks child there)).knows_there

      merges : (w : Datum) (parts : Parts) → child.stage ≡ kept.Ended (end.Value w) → IsMerged future child mid.log mid.knows parts → IsSound parts (Closing v (k + 1))
      merges w parts stage merge = record {
        name_is = ap (λ (l : SnapshotTask). l.log.name) merge.log_is ∙ sound.name_is;
        made_is = ap (λ (l : SnapshotTask). l.log.made) merge.log_is ∙ sound.made_is;
        base_is = ap (λ (l : SnapshotTask). l.base) merge.log_is ∙ sound.base_is;
        depth_is = ap (λ (l : SnapshotTask). l.depth) merge.log_is ∙ sound.depth_is;
        actor_is = ap (λ (l : SnapshotTask). l.actor) merge.log_is ∙ sound.actor_is;
        knows_in = λ g among. of_both (is_there (tasks_of tasks) g) (is_known mid.knows g) (is_known child.knows g) (sym (merge.both g) ∙ among) (sound.knows_in g) (child_knows g);
        reads_in = λ ref among. among_both mid.log.reads child.log.reads old.reads sound.reads_in (run.members future child there).reads_so ref (ap (λ (l : SnapshotTask). is_among ref l.reads) (sym merge.log_is) ∙ among);
        stands = λ around results each first.
            subst (λ (l : Log). IsAt around results name (task_at (levels_below t.log.depth) t.log.base parts.knows.keys l (Closing v (k + 1)))) (sym (log_so))
            (step.closes_child around results name (levels_below t.log.depth) t.log.base mid.knows.keys mid.log.log v k (sound.stands around results each first) more known apart
            (levels_below child.log.depth) child.log.base child.knows.keys child.log.log w parts.knows.keys (child_at around results tasks future child (end.Value w) each there stage) merge.both);
      }
        where
          log_so : parts.log.log ≡ merged mid.log.log child.log.log
          log_so = ap (λ (l : SnapshotTask). l.log) merge.log_is ∙ merged_so mid.log.log child.log.log future formed_so

      ends_badly : (e : TaskEnd) (parts : Parts) (found : Went) → IsNoValue e → child.stage ≡ kept.Ended e → (parts ≡ mid) × (found ≡ went.Ended e) → After k parts found
      ends_badly e parts found others stage so = subst (After k parts) (sym so.1) (subst (λ p. IsSound p (Ended (outcome_of e))) (sym so.0) (passed mid (Closing v k) (Ended (outcome_of e)) sound
          (λ around results each at_it. step.closes_badly around results name (levels_below t.log.depth) t.log.base mid.knows.keys mid.log.log v k at_it more known apart
          (levels_below child.log.depth) child.log.base child.knows.keys child.log.log (outcome_of e) (bad e others) (child_at around results tasks future child e each there stage))))

      waits : (parts : Parts) (found : Went) → (parts ≡ mid) × (found ≡ went.Waits future k) → After k parts found
      waits parts found so = subst (After k parts) (sym so.1) (subst (λ p. IsSound p (Closing v k)) (sym so.0) sound)

      went_at : (stage : KeptStage) (parts : Parts) (found : Went) → child.stage ≡ stage → WentAt stage future k child mid parts found → After k parts found
      went_at (kept.Going machine) parts found stage so = waits parts found so
      went_at (kept.Closing closing) parts found stage so = waits parts found so
      went_at (kept.Ended (end.Value w)) parts found stage so = subst (After k parts) (sym so.1) (merges w parts stage so.0)
      went_at (kept.Ended (end.Fault code place)) parts found stage so = ends_badly (end.Fault code place) parts found tt stage so
      went_at (kept.Ended end.Spent) parts found stage so = ends_badly end.Spent parts found tt stage so

    went_so : (parts : Parts) (found : Went) → IsWent tasks k mid parts found → After k parts found
    went_so parts found it = on (is_among future mid.log.log.joined) (is_known mid.knows future) (named future tasks) refl refl refl it
      where
        on : (joined knows : Bool) (child : Option Task) → is_among future mid.log.log.joined ≡ joined → is_known mid.knows future ≡ knows → named future tasks ≡ child
            → WentBy (cond joined None (cond knows child None)) future k mid parts found → After k parts found
        on true knows child among known there so = passes parts found (joined_before among) so
        on false false child apart none there so = passes parts found (unknown none) so
        on false true None apart known none so = absurd (let here = sound.knows_in future known in let lost = not_there tasks future none in cc)
        on false true (Some child) apart known there so = went_at apart known child there child.stage parts found refl so

  -- ---- all joins
  goes_so : IsSound before (Closing v from) → (count : ℕ) (parts : Parts) → count ≤ t.log.log.made - from → Goes tasks from before count parts → IsSound parts (Closing v (from + count))
  goes_so first zero parts within same = subst (λ n. IsSound parts (Closing v n)) none (subst (λ p. IsSound p (Closing v from)) (sym same) first)
    where
      none : from ≡ from + 0
      none = omega arith
  goes_so first (suc count) parts within so =
      subst (λ n. IsSound parts (Closing v n)) one (went_so (from + count) so.0 (goes_so first count so.0 (omega arith) so.1.0) (omega arith) parts went.On so.1.1)
    where
      one : (from + count) + 1 ≡ from + suc count
      one = omega arith

  first_so : IsSound before (Closing v from)
  first_so = record {
    name_is = ap (λ (l : SnapshotTask). l.log.name) of.log_is;
    made_is = ap (λ (l : SnapshotTask). l.log.made) of.log_is;
    base_is = ap (λ (l : SnapshotTask). l.base) of.log_is;
    depth_is = ap (λ (l : SnapshotTask). l.depth) of.log_is;
    actor_is = ap (λ (l : SnapshotTask). l.actor) of.log_is;
    knows_in = λ g among. members.knows_there start at base finished old new name moved (halt.Value v) was run is move stays_so g (sym (ap (λ (k : Knowledge). is_known k g) of.knows_is) ∙ among);
    reads_in = λ ref among. (run.members name t is.there).reads_so ref (ap (λ (l : SnapshotTask). is_among ref l.reads) (sym of.log_is) ∙ among);
    stands = λ around results each first. first;
  }

  -- the task has done this, and is there
  changed_so : (parts : Parts) (kept_at : KeptStage) → IsSound parts (stage_of kept_at) → HasMachine start kept_at → IsChanged name old.tasks new.tasks (HasParts parts kept_at) → IsRun start at base finished new
  changed_so parts kept_at sound machine change =
      let to = change t is.there in
      stepped start at base finished old new name moved (halt.Value v) was run is move stays_so to.item parts.knows.keys parts.log.log (stage_of kept_at) to.put
      (ap tree_task to.related ∙ (λ i. task_at (levels_below (sound.depth_is i)) (sound.base_is i) parts.knows.keys parts.log.log (stage_of kept_at)))
      reads_are
      (record {
        machine = subst (λ (s : Task). HasMachine start s.stage) (sym to.related) machine;
        actor = ap (λ (s : Task). s.log.actor) to.related ∙ sound.actor_is ∙ (run.members name t is.there).actor;
        reads_so = λ ref among. ap (is_among ref) reads_are ∙ sound.reads_in ref (ap (λ (s : Task). is_among ref s.log.reads) (sym to.related) ∙ among);
      })
      sound.name_is (let same = sound.made_is in omega arith) sound.knows_in
      (λ around agrees results each so at_it. sound.stands around results each (begins_at around results (begun around results so at_it)))
    where
      begins_at : (around : Around) (results : Name → Result) → IsAt around results name (task_at (levels_below t.log.depth) t.log.base t.knows.keys t.log.log (Closing v from)) → At around results before (Closing v from)
      begins_at around results at_it = subst (λ (l : SnapshotTask). IsAt around results name (task_at (levels_below t.log.depth) t.log.base before.knows.keys l.log (Closing v from))) (sym of.log_is)
          (record { known = at_it.known; matches = matches_same results t.knows.keys before.knows.keys at_it.known (λ g. ap (λ (k : Knowledge). is_known k g) of.knows_is) at_it.matches; comes = at_it.comes })

  -- all is joined
  closed_so : (after : Parts) → Goes tasks from before (before.log.log.made - from) after → IsSound after (Ended (outcome_of (end.Value v)))
  closed_so after all =
      let made = ap (λ (l : SnapshotTask). l.log.made) of.log_is in
      let count = before.log.log.made - from in
      let sound = goes_so first_so count after (omega arith) all in
      passed after (Closing v (from + count)) (Ended (outcome_of (end.Value v))) sound
      (λ around results each at_it.
      let within = at_it.comes.within in
      let same = sound.made_is in
      step.closed around results name (levels_below t.log.depth) t.log.base after.knows.keys after.log.log v (from + count) at_it (omega arith))

  stops_so : (after : Parts) (stop : Went) (all : StopsAt tasks from before after stop) → After (from + all.count) after stop
  stops_so after stop all =
      let made = ap (λ (l : SnapshotTask). l.log.made) of.log_is in
      let few = all.more in
      went_so (from + all.count) all.mid (goes_so first_so all.count all.mid (omega arith) all.goes) (omega arith) after stop all.last

  pub close_came : (after : Parts) (stop : Went) (found : Stepped) → AllWent old.tasks from before after stop → CameClose name moved v after stop old.tasks new.tasks found → IsRun start at base finished new
  close_came after went.On found all came = changed_so after (kept.Ended (end.Value v)) (closed_so after all) tt came.tasks
  close_came after (went.Waits future next) found all came =
      changed_so after (kept.Closing (record { machine = moved; value = v; next = next })) (stops_so after (went.Waits future next) all) (record { machine = move.machine; comes = move.halts_so }) came.tasks
  close_came after (went.Ended e) found all came = changed_so after (kept.Ended e) (stops_so after (went.Ended e) all) tt came.tasks
