-- A fork.
use Rattle.std.proofs.Common.{◌≡◌, ◌∙◌, ◌-◌, ℕ, zero, suc, ◌≤◌, ◌<◌, ◌+◌, Bool, true, false, List, [], ◌∷◌, ◌++◌, length, refl, sym, ap, subst, Option, Some, None, arith}
use Rattle.std.specs.Prelude.{◌||◌}
use Rattle.core_syntax.specs.declared.node_id.NodeId.{NodeId}
use Rattle.eval_step.specs.Evaluation.{Evaluation, IsSameTask}
use Rattle.serial_model.proofs.Early.{not-below-itself}
use Rattle.serial_model.proofs.standing.Requests as step
use Rattle.serial_model.proofs.standing.Requests.{task_at}
use Rattle.serial_model.proofs.standing.Trees.{forks-run}
use Rattle.serial_model.specs.declared.answer.Answer.{Answer}
use Rattle.serial_model.specs.declared.answer.Answer.TheVariants as answer
use Rattle.serial_model.specs.declared.halt.Halt.{Halt}
use Rattle.serial_model.specs.declared.halt.Halt.TheVariants as halt
use Rattle.serial_model.specs.declared.request.Request.TheVariants as request
use Rattle.serial_model.specs.Log.{Log, new_log, with_made}
use Rattle.serial_model.specs.Standing.{Going, Runs, Stage, Start, Tasks, TreeTask, call_below, here_of}
use Rattle.serial_model.specs.Task.{forks}
use Rattle.task_fork_join.proofs.Joins.{answered}
use Rattle.task_fork_join.proofs.Members.{StandsAt, given_machine, going_at}
use Rattle.task_fork_join.proofs.Members as members
use Rattle.task_fork_join.specs.Attempt.{Attempt, levels_below, stage_of, tasks_of, tree_task}
use Rattle.task_fork_join.specs.declared.forking.Forked.{Forked}
use Rattle.task_fork_join.specs.declared.stepped.Stepped.{Stepped}
use Rattle.task_fork_join.specs.declared.task.Stage.TheVariants as kept
use Rattle.task_fork_join.specs.declared.task.Task.{Task}
use Rattle.task_fork_join.specs.Forking.{CameFork, IsBegun, IsFork, IsForked, IsPut, IsRefused, forks as forks_so, refused as refused_so}
use Rattle.task_fork_join.specs.Running.{AreMembers, HasMachine, IsMember, IsMove, IsRun}
use Rattle.task_fork_join.specs.Step.{Stays}
use Rattle.task_fork_join.specs.Stepping.{HasParts}
use Rattle.txn_snapshot.specs.SnapshotTask.{SnapshotTask, AreAmong}
use Rattle.value_core.proofs.NamedLaws.{each-put, named-other}
use Rattle.value_core.proofs.NamedViews.{each_as-with_named, view_found}
use Rattle.value_core.specs.declared.code.Code.TheVariants as code
use Rattle.value_core.specs.declared.value.Value.{Value as Datum}
use Rattle.value_core.specs.declared.value.Value.TheVariants as value
use Rattle.value_core.specs.NameOrder.{same_name_equiv}
use Rattle.task_fork_join.specs.Knowledge.{Knowledge, is_known}
use Rattle.value_core.specs.Named.{Name, Named, is_among, made_by, named, over, same_name, with_named, IsChangedTo}
use Rattle.value_core.specs.Place.{Spot}

-- a level less is left one fork further down
level_less : (depth : ℕ) → 0 < levels_below depth → levels_below depth ≡ suc (levels_below (depth + 1))
level_less depth more = omega arith

module _ (start : Start) (at : Spot) (base finished : Name → Option Datum) (old new : Attempt) (name : Name) (moved : Evaluation) (run : IsRun start at base finished old) (is : StandsAt name (going_at moved) old.tasks) (stays_so : Stays old new)
    (reads_are : new.reads ≡ old.reads) (body : NodeId) (values : List Datum) (place : Spot) (move : IsMove start moved (halt.Ask (request.Fork body values) place)) where
  abbrev t : Task
  t = is.task

  abbrev asks : Halt
  asks = halt.Ask (request.Fork body values) place

  module _ (found : Stepped) (did : IsFork name moved old.actor old.fuel body values old.tasks new.tasks found) where
    abbrev f : Forked
    f = did.fork

    abbrev left : ℕ
    left = levels_below (t.log.depth + 1)

    forked_so : IsForked t old.actor f
    forked_so = (did.forks t is.there).1

    abbrev begins : Task
    begins = record { log = f.child.log; knows = f.child.knows; stage = kept.Going did.child }

    its_name : t.log.log.name ≡ name
    its_name = (run.runs.formed name (tree_task t) (view_found tree_task name old.tasks t is.there)).named_so

    future_is : f.future ≡ name ++ t.log.log.made ∷ []
    future_is = forked_so.future_is ∙ ap (λ n. made_by n t.log.log.made) its_name

    other : ¬ (name ≡ f.future)
    other e = not-below-itself name t.log.log.made [] (e ∙ future_is)

    to : IsChangedTo name (with_named old.tasks f.future begins) new.tasks (HasParts f.parent (kept.Going did.put.machine)) t
    to = did.put.tasks t (named-other name f.future begins old.tasks other ∙ is.there)

    level : levels_below t.log.depth ≡ suc left
    level = level_less t.log.depth (did.forks t is.there).0

    abbrev was : Stage
    was = Going moved.body moved.values moved.answers

    abbrev goes_on : Name → Stage
    goes_on future = Going moved.body moved.values (moved.answers ++ answer.Value (value.Future future) ∷ [])

    parent_was : tree_task t ≡ task_at (suc left) t.log.base t.knows.keys t.log.log was
    parent_was = members.was_there start at base finished old new name moved asks (going_at moved) run is move stays_so ∙ ap (λ n. task_at n t.log.base t.knows.keys t.log.log was) level

    child_is : tree_task begins ≡ task_at left (over t.log.log.writes t.log.base) f.child.knows.keys (new_log (name ++ t.log.log.made ∷ [])) (Going body values [])
    child_is = (λ i. task_at (levels_below (forked_so.child_log i).depth) (forked_so.child_log i).base f.child.knows.keys (forked_so.child_log i).log (Going (did.begun.body_is i) (did.begun.values_is i) (did.begun.none i)))
        ∙ ap (λ n. task_at left (over t.log.log.writes t.log.base) f.child.knows.keys (new_log n) (Going body values [])) future_is

    parent_is : tree_task to.item ≡ task_at (suc left) t.log.base f.parent.knows.keys (with_made t.log.log) (goes_on (name ++ t.log.log.made ∷ []))
    parent_is = ap tree_task to.related
        ∙ (λ i. task_at (levels_below (forked_so.parent_log i).depth) (forked_so.parent_log i).base f.parent.knows.keys (forked_so.parent_log i).log
        (Going (did.put.given_so.same.body i) (did.put.given_so.same.values i) (did.put.given_so.answers i)))
        ∙ ap (λ n. task_at n t.log.base f.parent.knows.keys (with_made t.log.log) (goes_on f.future)) level
        ∙ ap (λ n. task_at (suc left) t.log.base f.parent.knows.keys (with_made t.log.log) (goes_on n)) future_is

    knows_more : (g : Name) → is_among g f.parent.knows.keys ≡ (same_name (name ++ t.log.log.made ∷ []) g || is_among g t.knows.keys)
    knows_more g = forked_so.parent_knows.keys g ∙ turned (is_known t.knows g) (same_name g f.future) ∙ ap (λ b. b || is_among g t.knows.keys) (same_name_equiv.symm g f.future ∙ ap (λ n. same_name n g) future_is)
      where
        turned : (a b : Bool) → (a || b) ≡ (b || a)
        turned true true = refl
        turned true false = refl
        turned false true = refl
        turned false false = refl

    tasks_are : tasks_of new.tasks ≡ with_named (with_named (tasks_of old.tasks) (name ++ t.log.log.made ∷ [])
        (task_at left (over t.log.log.writes t.log.base) f.child.knows.keys (new_log (name ++ t.log.log.made ∷ [])) (Going body values [])))
        name (task_at (suc left) t.log.base f.parent.knows.keys (with_made t.log.log) (goes_on (name ++ t.log.log.made ∷ [])))
    tasks_are = ap tasks_of to.put ∙ each_as-with_named tree_task name to.item (with_named old.tasks f.future begins)
        ∙ ap (λ (ts : Tasks). with_named ts name (tree_task to.item)) (each_as-with_named tree_task f.future begins old.tasks
        ∙ ap (λ n. with_named (tasks_of old.tasks) n (tree_task begins)) future_is
        ∙ ap (with_named (tasks_of old.tasks) (name ++ t.log.log.made ∷ [])) child_is)
        ∙ ap (with_named (with_named (tasks_of old.tasks) (name ++ t.log.log.made ∷ [])
        (task_at left (over t.log.log.writes t.log.base) f.child.knows.keys (new_log (name ++ t.log.log.made ∷ [])) (Going body values []))) name) parent_is

    same_reads : AreAmong old.reads new.reads
    same_reads ref among = ap (is_among ref) reads_are ∙ among

    child_member : IsMember start new.reads begins
    child_member = record {
      machine = record { inside = did.begun.inside; fuel = did.begun.fuel_is ∙ run.fuel; of = did.begun.of start.program move.there };
      actor = ap (λ (l : SnapshotTask). l.actor) forked_so.child_log ∙ run.actor;
      reads_so = λ ref among. absurd (let none : is_among ref f.child.log.reads ≡ false = ap (λ (l : SnapshotTask). is_among ref l.reads) forked_so.child_log in cc);
    }

    parent_member : IsMember start new.reads to.item
    parent_member = record {
      machine = subst (λ (s : Task). HasMachine start s.stage) (sym to.related) (given_machine start at base finished moved did.put.machine (answer.Value (value.Future f.future)) move.machine did.put.given_so);
      actor = ap (λ (s : Task). s.log.actor) to.related ∙ ap (λ (l : SnapshotTask). l.actor) forked_so.parent_log ∙ (run.members name t is.there).actor;
      reads_so = λ ref among. same_reads ref ((run.members name t is.there).reads_so ref
          (ap (λ (l : SnapshotTask). is_among ref l.reads) (sym forked_so.parent_log) ∙ ap (λ (s : Task). is_among ref s.log.reads) (sym to.related) ∙ among));
    }

    member_still : (s : Task) → IsMember start old.reads s → IsMember start new.reads s
    member_still s its = record { machine = its.machine; actor = its.actor; reads_so = λ ref among. same_reads ref (its.reads_so ref among) }

    forked : IsRun start at base finished new
    forked = record {
      runs = subst (λ (rs : List Name). Runs start base finished (tasks_of new.tasks) rs) (sym reads_are) (subst (λ ts. Runs start base finished ts old.reads) (sym tasks_are)
          (forks-run (tasks_of old.tasks) run.runs.formed name (tree_task t) (view_found tree_task name old.tasks t is.there) left t.log.base t.knows.keys t.log.log moved.body moved.values moved.answers
          parent_was body values f.parent.knows.keys knows_more f.child.knows.keys (λ g. ap (λ (k : Knowledge). is_known k g) forked_so.child_knows) start base finished old.reads place run.runs move.halts_so));
      members = subst (AreMembers start new.reads) (sym to.put)
          (each-put (λ n (s : Task). IsMember start new.reads s) name to.item (with_named old.tasks f.future begins)
          (each-put (λ n (s : Task). IsMember start new.reads s) f.future begins old.tasks (λ n s there. member_still s (run.members n s there)) child_member)
          parent_member);
      read_there = λ ref among. run.read_there ref (ap (is_among ref) (sym reads_are) ∙ among);
      root = stays_so.root ∙ run.root;
      actor = stays_so.actor ∙ run.actor;
      fuel = stays_so.fuel ∙ run.fuel;
      escape = stays_so.escape ∙ run.escape;
    }

  refused : (found : Stepped) → IsRefused name moved old.tasks new.tasks found → IsRun start at base finished new
  refused found did = answered start at base finished old new name moved run is stays_so reads_are asks move (answer.Fault code.ForkTooDeep) found did.given
      (λ around agrees results each so at_it. step.replied around results name (levels_below t.log.depth) t.log.base t.knows.keys t.log.log moved.body moved.values moved.answers at_it (request.Fork body values) place t.log.log
      (answer.Fault code.ForkTooDeep) so (λ known. ap (λ levels. forks levels (call_below around levels) t.log.base (here_of moved.answers t.log.log known) body values) (did.last t is.there)))

  pub fork_came : (found : Stepped) → CameFork name moved old.actor old.fuel body values old.tasks new.tasks found → IsRun start at base finished new
  fork_came found (forks_so did) = forked found did
  fork_came found (refused_so did) = refused found did
