-- The tasks of an attempt, one of which is put in the place of another one.
use Rattle.std.proofs.Common.{◌≡◌, ◌∙◌, ℕ, ◌≤◌, ◌<◌, Bool, true, false, List, [], ◌∷◌, ◌++◌, fold, refl, sym, ap, subst, Option, Some, None, arith}
use Rattle.std.specs.Option.{IsSome}
use Rattle.std.specs.Prelude.{◌||◌}
use Rattle.eval_step.specs.Evaluation.{Evaluation}
use Rattle.serial_model.proofs.standing.Requests.{task_at}
use Rattle.serial_model.proofs.standing.Trees.{Keeps, changed}
use Rattle.serial_model.specs.declared.answer.Answer.{Answer}
use Rattle.serial_model.specs.declared.halt.Halt.{Halt}
use Rattle.serial_model.specs.Eval.{next}
use Rattle.serial_model.specs.Log.{Log}
use Rattle.serial_model.specs.Standing.{Agrees, EachTask, Going, IsAt, Runs, Stage, Start, TreeTask, is_there}
use Rattle.serial_model.specs.Task.{Around, Result}
use Rattle.task_fork_join.specs.Attempt.{Attempt, levels_below, stage_of, tasks_of, tree_task}
use Rattle.task_fork_join.specs.declared.task.Stage.TheVariants as kept
use Rattle.task_fork_join.specs.declared.task.Task.{Task}
use Rattle.task_fork_join.specs.Running.{AreMembers, IsMachine, IsMember, IsMove, IsRun}
use Rattle.task_fork_join.specs.Step.{Stays}
use Rattle.task_fork_join.specs.Stepping.{IsGiven}
use Rattle.shared_map.proofs.NameLaws.{among-with_member}
use Rattle.txn_snapshot.specs.Reads.{with_read}
use Rattle.txn_snapshot.specs.SnapshotTask.{AreAmong}
use Rattle.value_core.proofs.NamedLaws.{each-put, same_name-equal, same_name-itself}
use Rattle.value_core.proofs.NamedViews.{each_as-with_named, view_found}
use Rattle.value_core.specs.declared.value.Value.{Value as Datum}
use Rattle.value_core.specs.Named.{Name, Named, is_among, named, same_name, with_named, IsChanged}
use Rattle.value_core.specs.Place.{Spot}

-- the task of that name stands there
pub record StandsAt (name : Name) (was : Stage) (tasks : Named Task) : Type 0 where
  pub task : Task
  pub there : named name tasks ≡ Some task
  pub stage : stage_of task.stage ≡ was

-- where a machine goes on
abbrev pub going_at : Evaluation → Stage
going_at moved = Going moved.body moved.values moved.answers

-- where nothing stands under a name, nothing is to be changed
pub unchanged : {X : Type 0} (k : Name) (old new : Named X) (R : X → X → Type 0) → named k old ≡ None → IsChanged k old new R
unchanged k old new R none x found = absurd (let e : None ≡ Some x = sym none ∙ found in cc)

-- ---- refs that were read
-- one ref more
pub among_one : (ns more : List Name) (ref : Name) → AreAmong ns more → is_among ref more ≡ true → AreAmong (with_read ns ref) more
among_one ns more ref all there q among = on (same_name q ref) refl (sym (among-with_member q ns ref) ∙ among)
  where
    on : (b : Bool) → same_name q ref ≡ b → (b || is_among q ns) ≡ true → is_among q more ≡ true
    on true same so = ap (λ n. is_among n more) (same_name-equal q ref same) ∙ there
    on false same so = all q so

-- those of both
pub among_both : (ns ms more : List Name) → AreAmong ns more → AreAmong ms more → AreAmong (fold with_read ns ms) more
among_both ns [] more first second = first
among_both ns (m ∷ ms) more first second =
    among_both (with_read ns m) ms more (among_one ns more m first (second m (ap (λ b. b || is_among m ms) (same_name-itself m))))
    (λ q among. second q (ap (λ b. same_name q m || b) among ∙ truly (same_name q m)))
  where
    truly : (b : Bool) → (b || true) ≡ true
    truly true = refl
    truly false = refl

module _ (start : Start) (at : Spot) (base finished : Name → Option Datum) where
  -- a member of more reads
  member_more : (reads more : List Name) (t : Task) → AreAmong reads more → IsMember start reads t → IsMember start more t
  member_more reads more t all is = record { machine = is.machine; actor = is.actor; reads_so = λ ref among. all ref (is.reads_so ref among) }

  -- a task is put, and the attempt still runs its transaction
  pub put_runs : (old new : Attempt) (name : Name) (t' : Task) → IsRun start at base finished old → Stays old new → new.tasks ≡ with_named old.tasks name t'
      → AreAmong old.reads new.reads → ((ref : Name) → is_among ref new.reads ≡ true → IsSome (base ref)) → IsMember start new.reads t'
      → Runs start base finished (with_named (tasks_of old.tasks) name (tree_task t')) new.reads
      → IsRun start at base finished new
  put_runs old new name t' run stays put all there member runs = record {
    runs = subst (λ ts. Runs start base finished ts new.reads) (sym (ap tasks_of put ∙ each_as-with_named tree_task name t' old.tasks)) runs;
    members = subst (λ ts. AreMembers start new.reads ts) (sym put)
        (each-put (λ n (s : Task). IsMember start new.reads s) name t' old.tasks (λ n s there. member_more old.reads new.reads s all (run.members n s there)) member);
    read_there = there;
    root = stays.root ∙ run.root;
    actor = stays.actor ∙ run.actor;
    fuel = stays.fuel ∙ run.fuel;
    escape = stays.escape ∙ run.escape;
  }

  -- an answered machine is one of the transaction
  pub given_machine : (moved machine : Evaluation) (given : Answer) → IsMachine start moved → IsGiven moved given machine → IsMachine start machine
  given_machine moved machine given is so = record { inside = so.same.inside ∙ is.inside; fuel = so.same.fuel ∙ is.fuel; of = so.of start.program is.of }

  -- a task that stands there takes a step
  module _ (old new : Attempt) (name : Name) (moved : Evaluation) (halts : Halt) (was : Stage) (run : IsRun start at base finished old) (is : StandsAt name was old.tasks) (move : IsMove start moved halts) (stays : Stays old new) where
    abbrev t : Task
    t = is.task

    abbrev pub at_stage : List Name → Log → Stage → TreeTask
    at_stage knows log stage = task_at (levels_below t.log.depth) t.log.base knows log stage

    pub was_there : tree_task t ≡ at_stage t.knows.keys t.log.log was
    was_there = ap (at_stage t.knows.keys t.log.log) is.stage

    pub there : named name (tasks_of old.tasks) ≡ Some (tree_task t)
    there = view_found tree_task name old.tasks t is.there

    pub member : IsMember start old.reads t
    member = run.members name t is.there

    pub knows_there : (f : Name) → is_among f t.knows.keys ≡ true → is_there (tasks_of old.tasks) f ≡ true
    knows_there = (run.runs.formed name (tree_task t) there).knows_there

    halts_so : (around : Around) (more : List Name) → Agrees start base more finished around → next around.program moved.body moved.values true moved.answers around.fuel ≡ halts
    halts_so around more agrees = ap (λ p. next p moved.body moved.values true moved.answers around.fuel) agrees.program ∙ ap (λ f. next start.program moved.body moved.values true moved.answers f) agrees.fuel ∙ move.halts_so

    -- its place is taken by a task with that log, these known names and that stage
    pub stepped : (t' : Task) (knows : List Name) (log : Log) (stage : Stage) → new.tasks ≡ with_named old.tasks name t'
        → tree_task t' ≡ at_stage knows log stage → new.reads ≡ old.reads → IsMember start new.reads t'
        → log.name ≡ t.log.log.name → t.log.log.made ≤ log.made → ((f : Name) → is_among f knows ≡ true → is_there (tasks_of old.tasks) f ≡ true)
        → ((around : Around) → Agrees start base new.reads finished around → (results : Name → Result) → EachTask (IsAt around results) (tasks_of old.tasks)
        → next around.program moved.body moved.values true moved.answers around.fuel ≡ halts
        → IsAt around results name (at_stage t.knows.keys t.log.log was) → IsAt around results name (at_stage knows log stage))
        → IsRun start at base finished new
    stepped t' knows log stage put same reads_are its named_so made known steps =
        put_runs old new name t' run stays put all (λ ref among. run.read_there ref (ap (is_among ref) (sym reads_are) ∙ among)) its
        (changed start base finished (tasks_of old.tasks) old.reads new.reads name (tree_task t) (tree_task t') run.runs there all
        (record {
          named_so = ap (λ (s : TreeTask). s.log.name) same ∙ named_so;
          made = subst (λ (s : TreeTask). t.log.log.made ≤ s.log.made) (sym same) made;
          knows_there = subst (λ (s : TreeTask). (f : Name) → is_among f s.knows ≡ true → is_there (tasks_of old.tasks) f ≡ true) (sym same) known;
        })
        (λ around agrees results each at_it. subst (IsAt around results name) (sym same)
        (steps around agrees results each (halts_so around new.reads agrees) (subst (IsAt around results name) was_there at_it))))
      where
        all : AreAmong old.reads new.reads
        all ref among = ap (is_among ref) reads_are ∙ among

    -- only its stage changes
    pub staged : (t' : Task) (stage : Stage) → new.tasks ≡ with_named old.tasks name t' → t'.log ≡ t.log → t'.knows ≡ t.knows → stage_of t'.stage ≡ stage → new.reads ≡ old.reads
        → IsMember start new.reads t'
        → ((around : Around) → Agrees start base new.reads finished around → (results : Name → Result) → EachTask (IsAt around results) (tasks_of old.tasks)
        → next around.program moved.body moved.values true moved.answers around.fuel ≡ halts
        → IsAt around results name (at_stage t.knows.keys t.log.log was) → IsAt around results name (at_stage t.knows.keys t.log.log stage))
        → IsRun start at base finished new
    staged t' stage put log_is knows_is stage_is reads_are its steps =
        stepped t' t.knows.keys t.log.log stage put
        (λ i. task_at (levels_below (log_is i).depth) (log_is i).base (knows_is i).keys (log_is i).log (stage_is i))
        reads_are its refl (omega arith) knows_there steps
