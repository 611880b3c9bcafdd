-- What a step keeps of the tasks of an attempt: the root is there, all that go on are inside a transaction, and what they know is
-- of one another.
use Rattle.std.proofs.Common.{◌≡◌, ◌∙◌, [], ◌∷◌, ℕ, List, Bool, true, false, cond, refl, sym, ap, subst, Option, Some, None, Result, Ok, Err, IfOk, OnErr, ◌⊎◌, inl, inr}
use Rattle.std.specs.Option.{IsSome}
use Rattle.core_syntax.specs.declared.node_id.NodeId.{NodeId}
use Rattle.eval_step.specs.Evaluation.{Evaluation}
use Rattle.serial_model.proofs.evaluation.Carries.{ask-is-inner}
use Rattle.serial_model.specs.declared.answer.Answer.{Answer}
use Rattle.serial_model.specs.declared.answer.Answer.TheVariants as answer
use Rattle.serial_model.specs.declared.halt.Halt.{Halt}
use Rattle.serial_model.specs.declared.halt.Halt.TheVariants as halt
use Rattle.serial_model.specs.declared.request.Request.{Request}
use Rattle.serial_model.specs.Eval.{next}
use Rattle.task_fork_join.proofs.Kinship.{GrowsTo, all_grow, grows_there, joined_grows, parent_grows, parent_is, put_child_kin, put_kin}
use Rattle.task_fork_join.specs.Attempt.{AreKin, AreTasks, IsInside, IsKept, IsRootAlone, machine_at}
use Rattle.task_fork_join.specs.Closing.{CameClose, IsClose, IsFinished}
use Rattle.task_fork_join.specs.declared.closing.Went.{Went}
use Rattle.task_fork_join.specs.declared.closing.Went.TheVariants as went
use Rattle.task_fork_join.specs.declared.forking.Forked.{Forked}
use Rattle.task_fork_join.specs.declared.joining.Joined.{Joined}
use Rattle.task_fork_join.specs.declared.joining.Met.{Met}
use Rattle.task_fork_join.specs.declared.joining.Met.TheVariants as met
use Rattle.task_fork_join.specs.declared.stepped.Stepped.{Stepped}
use Rattle.task_fork_join.specs.declared.stepped.Stepped.TheVariants as stepped
use Rattle.task_fork_join.specs.declared.task.Parts.{Parts}
use Rattle.task_fork_join.specs.declared.task.Stage.{Stage as KeptStage}
use Rattle.task_fork_join.specs.declared.task.Stage.TheVariants as stages
use Rattle.task_fork_join.specs.declared.task.Task.{Task}
use Rattle.task_fork_join.specs.declared.task_end.TaskEnd.{TaskEnd}
use Rattle.task_fork_join.specs.declared.task_end.TaskEnd.TheVariants as end
use Rattle.task_fork_join.specs.Forking.{CameFork, IsForked, IsPut, forks, refused}
use Rattle.task_fork_join.specs.Joining.{known_in, CameJoin, IsEnded, IsJoin, IsMetAs}
use Rattle.task_fork_join.specs.Knowledge.{Knowledge, is_known}
use Rattle.task_fork_join.specs.Step.{AsksInside, HaltsAt}
use Rattle.task_fork_join.specs.Stepping.{Acted, CameReply, Gone, HasParts, IsActed, IsAnswered, IsGiven, IsWaiting}
use Rattle.txn_snapshot.specs.declared.answered.Answered.{Answered}
use Rattle.txn_snapshot.specs.declared.answered.Answered.TheVariants as answered
use Rattle.value_core.proofs.NamedLaws.{each-put, found_apart, named-here, named-with_named, rises-with_named}
use Rattle.value_core.specs.declared.code.Code.TheVariants as code
use Rattle.value_core.specs.declared.value.Value.{Value as Datum}
use Rattle.value_core.specs.declared.value.Value.TheVariants as value
use Rattle.value_core.specs.Named.{Name, Named, named, same_name, with_named, IsChanged}

-- what is there is there after an item is put
some_put : {X : Type 0} (k name : Name) (x : X) (es : Named X) → IsSome (named k es) → IsSome (named k (with_named es name x))
some_put {X} k name x es there = subst (λ (o : Option X). IsSome o) (sym (named-with_named k name x es)) (on (same_name k name))
  where
    on : (b : Bool) → IsSome (cond b (Some x) (named k es))
    on true = refl
    on false = there

-- a task is put that is inside where it goes on
put_keeps : (root name : Name) (t : Task) (es : Named Task) → AreTasks root es → IsInside t.stage → AreKin (with_named es name t) → AreTasks root (with_named es name t)
put_keeps root name t es are inside kin = record {
  rooted = some_put root name t es are.rooted;
  inside = each-put (λ n (s : Task). IsInside s.stage) name t es are.inside inside;
  kin = kin;
  rises = rises-with_named name t es are.rises;
}

-- a task is changed to one that is inside where it goes on, and knows what is of the tasks
changed_keeps : (root name : Name) (old new : Named Task) (R : Task → Task → Type 0) → ((s t : Task) → R s t → IsInside t.stage)
    → ((s t : Task) → named name old ≡ Some s → R s t → GrowsTo old s.knows t.knows) → IsSome (named name old) → IsChanged name old new R → AreTasks root old → AreTasks root new
changed_keeps root name old new R inside grows kept change are = on (named name old) refl kept
  where
    on : (o : Option Task) → named name old ≡ o → IsSome o → AreTasks root new
    on None is never = absurd (cc)
    on (Some t) is some = let to = change t is in subst (AreTasks root) (sym to.put) (put_keeps root name to.item old are (inside t to.item to.related)
        (put_kin old are.kin name t to.item is (grows t to.item is to.related)))

-- a task that is kept is there
kept_some : (name : Name) (moved : Evaluation) (tasks : Named Task) → IsKept name moved tasks → IsSome (named name tasks)
kept_some name moved tasks kept = subst (λ (o : Option Task). IsSome o) (sym kept.there) refl

-- the machine that is kept there is inside
machine_inside : (stage : KeptStage) (machine : Evaluation) → machine_at stage ≡ Some machine → IsInside stage → machine.inside ≡ true
machine_inside (stages.Going m) machine is inside = let same : m ≡ machine = cc in subst (λ (x : Evaluation). x.inside ≡ true) same inside
machine_inside (stages.Closing closing) machine is inside = let same : closing.machine ≡ machine = cc in subst (λ (x : Evaluation). x.inside ≡ true) same inside
machine_inside (stages.Ended e) machine is inside = absurd (cc)

-- the machine of a task that is kept is inside
pub kept_inside : (root name : Name) (moved : Evaluation) (tasks : Named Task) → AreTasks root tasks → IsKept name moved tasks → moved.inside ≡ true
kept_inside root name moved tasks are kept = kept.same.task.inside ∙ machine_inside kept.task.stage kept.machine kept.going (are.inside name kept.task kept.there)

-- a request at which the machine of a task that is kept stands is none for a transaction
pub asks_inside : (root name : Name) (moved : Evaluation) (tasks : Named Task) → AreTasks root tasks → IsKept name moved tasks → (halts : Halt) → HaltsAt moved halts → AsksInside moved halts
asks_inside root name moved tasks are kept (halt.Ask asked at) is =
    let halted = is tt in
    let inside = kept_inside root name moved tasks are kept in (
      halted.asking,
      ask-is-inner halted.program moved.body moved.values moved.answers moved.fuel asked at
          (ap (λ b. next halted.program moved.body moved.values b moved.answers moved.fuel) (sym inside) ∙ halted.comes),
    )
asks_inside root name moved tasks are kept (halt.Value v) is = tt
asks_inside root name moved tasks are kept (halt.Fault code at) is = tt
asks_inside root name moved tasks are kept halt.Spent is = tt

-- a root alone is there, and inside
pub root_keeps : (root : Name) (actor : Option Name) (machine : Evaluation) (tasks : Named Task) → machine.inside ≡ true → IsRootAlone root actor machine tasks → AreTasks root tasks
root_keeps root actor machine tasks inside alone = subst (AreTasks root) (sym alone.tasks_are) (record {
  rooted = subst (λ (o : Option Task). IsSome o) (sym (named-here root alone.task [])) refl;
  inside = each-put (λ n (s : Task). IsInside s.stage) root alone.task [] (λ n s never. absurd (cc)) (subst IsInside (sym alone.goes) inside);
  kin = record {
    there = λ n s is g known. knows_none s (it_is n s is) g known;
    kin = λ n s is m c known found. knows_none s (it_is n s is) m known;
  };
  rises = rises-with_named root alone.task [] tt;
})
  where
    it_is : (n : Name) (s : Task) → named n ((root, alone.task) ∷ []) ≡ Some s → s ≡ alone.task
    it_is n s is = on (found_apart n root alone.task s [] is)
      where
        on : ((n ≡ root) × (s ≡ alone.task)) ⊎ (¬ (n ≡ root) × (None ≡ Some s)) → s ≡ alone.task
        on (inl same) = same.1
        on (inr never) = absurd (let no = never.1 in cc)

    knows_none : {P : Type 0} (s : Task) → s ≡ alone.task → (g : Name) → is_known s.knows g ≡ true → P
    knows_none s same g known = absurd (let never = ap (λ (x : Task). is_known x.knows g) (sym same) in let none = ap (λ (k : Knowledge). is_known k g) alone.knows_none in cc)

-- they are kept whether the call succeeds or leaves the tasks
pub by_result : {X E : Type 0} (r : Result X E) (root : Name) (old new : Named Task) → IfOk r (λ _. AreTasks root new) → OnErr r (new ≡ old) → AreTasks root old → AreTasks root new
by_result (Ok x) root old new done same are = done
by_result (Err e) root old new done same are = subst (AreTasks root) (sym same) are

-- that is the same task, which is inside where it goes on
same_inside : (t u : Task) → t ≡ u → IsInside u.stage → IsInside t.stage
same_inside t u same inside = subst (λ (s : Task). IsInside s.stage) (sym same) inside

-- a child that begins
abbrev child_task : Forked → Evaluation → Task
child_task f child = record { log = f.child.log; knows = f.child.knows; stage = stages.Going child }

module _ (root name : Name) (moved : Evaluation) (old new : Named Task) (are : AreTasks root old) (kept : IsKept name moved old) (found : Stepped) where
  changed : (R : Task → Task → Type 0) → ((s t : Task) → R s t → IsInside t.stage) → ((s t : Task) → named name old ≡ Some s → R s t → GrowsTo old s.knows t.knows)
      → IsChanged name old new R → AreTasks root new
  changed R inside grows change = changed_keeps root name old new R inside grows (kept_some name moved old kept) change are

  -- the task knows what it knew, or those
  knows_same : (s t : Task) → named name old ≡ Some s → t.knows ≡ s.knows → GrowsTo old s.knows t.knows
  knows_same s t is same = subst (GrowsTo old s.knows) (sym same) (grows_there old name s are.kin is)

  knows_those : (parts : Parts) → ((s : Task) → named name old ≡ Some s → GrowsTo old s.knows parts.knows) → (s t : Task) → named name old ≡ Some s → t.knows ≡ parts.knows → GrowsTo old s.knows t.knows
  knows_those parts grows s t is same = subst (GrowsTo old s.knows) (sym same) (grows s is)

  moved_inside : moved.inside ≡ true
  moved_inside = kept_inside root name moved old are kept

  given_inside : (given : Answer) (machine : Evaluation) → IsGiven moved given machine → machine.inside ≡ true
  given_inside given machine is = is.same.inside ∙ moved_inside

  -- the task is there, and else as it was
  gone : (stage : KeptStage) → IsInside stage → IsChanged name old new (Gone stage) → AreTasks root new
  gone stage inside change = changed (Gone stage) (λ s t same. same_inside t (record s { stage = stage }) same inside) (λ s t is same. knows_same s t is (ap (λ (x : Task). x.knows) same)) change

  waits : (wait : Stepped) → IsWaiting name moved wait old new found → AreTasks root new
  waits wait did = gone (stages.Going moved) moved_inside did.tasks

  answered_keeps : (given : Answer) → IsAnswered name moved given old new found → AreTasks root new
  answered_keeps given did = gone (stages.Going did.machine) (given_inside given did.machine did.given_so) did.tasks

  pub ended_keeps : (e : TaskEnd) → IsEnded name e old new found → AreTasks root new
  ended_keeps e did = gone (stages.Ended e) tt did.tasks

  parts_keep : (parts : Parts) (stage : KeptStage) → IsInside stage → ((s : Task) → named name old ≡ Some s → GrowsTo old s.knows parts.knows) → IsChanged name old new (HasParts parts stage) → AreTasks root new
  parts_keep parts stage inside grows change = changed (HasParts parts stage) (λ s t same. same_inside t (record { log = parts.log; knows = parts.knows; stage = stage }) same inside)
      (λ s t is same. knows_those parts grows s t is (ap (λ (x : Task). x.knows) same)) change

  finished_keeps : (parts : Parts) (e : TaskEnd) → ((s : Task) → named name old ≡ Some s → GrowsTo old s.knows parts.knows) → IsFinished name parts e old new found → AreTasks root new
  finished_keeps parts e grows did = parts_keep parts (stages.Ended e) tt grows did.tasks

  pub acted_keeps : (refs : Name → Option Datum) (asked : Request) (reads more : List Name) → IsActed refs name moved asked old reads new more found → AreTasks root new
  acted_keeps refs asked reads more did = on did.reply did.came
    where
      on : (reply : Answered) → CameReply name moved asked reply did.log old reads new more found → AreTasks root new
      on (answered.Now given) came = changed (Acted did.log (stages.Going came.machine))
          (λ s t same. same_inside t (record s { log = did.log; stage = stages.Going came.machine }) same (given_inside given came.machine came.given_so))
          (λ s t is same. knows_same s t is (ap (λ (x : Task). x.knows) same)) came.tasks
      on (answered.NotInSnapshot ref) came = waits (stepped.NotInSnapshot ref) came.waiting

  pub join_keeps : (future : Name) (outer : Option Datum) → IsJoin name moved future outer old new found → AreTasks root new
  join_keeps future outer did = on did.meets refl outer did.came
    where
      first_grows : (joined : Joined) → did.meets ≡ met.First joined → (s : Task) → named name old ≡ Some s → GrowsTo old s.knows joined.parts.knows
      first_grows joined is s at = by (known_in old s.knows future) refl (subst (λ m. IsMetAs (known_in old s.knows future) s future m) is (did.met_so s at))
        where
          by : (o : Option Task) → known_in old s.knows future ≡ o → IsMetAs o s future (met.First joined) → GrowsTo old s.knows joined.parts.knows
          by None none never = absurd (cc)
          by (Some c) known it = joined_grows old are.kin future c s.log s.knows s.knows joined.parts (grows_there old name s are.kin at) known it.2

      on : (meets : Met) → did.meets ≡ meets → (outer : Option Datum) → CameJoin name moved future outer meets old new found → AreTasks root new
      on met.Unknown is None came = waits (stepped.WaitJoin future) came
      on met.Unknown is (Some v) came = answered_keeps (answer.Value v) came
      on met.Unfinished is outer came = waits (stepped.WaitJoin future) came
      on (met.First joined) is outer came = changed (HasParts joined.parts (stages.Going came.machine))
          (λ s t same. same_inside t (record { log = joined.parts.log; knows = joined.parts.knows; stage = stages.Going came.machine }) same (given_inside (answer.Value joined.value) came.machine came.given_so))
          (λ s t at same. knows_those joined.parts (first_grows joined is) s t at (ap (λ (x : Task). x.knows) same)) came.tasks
      on (met.Again v) is outer came = answered_keeps (answer.Value v) came
      on (met.Ended e) is outer came = ended_keeps e came

  pub close_keeps : (v : Datum) → IsClose name moved v old new found → AreTasks root new
  close_keeps v did = on did.closed.went did.came
    where
      grows : (s : Task) → named name old ≡ Some s → GrowsTo old s.knows did.closed.parts.knows
      grows s is = all_grow old are.kin s.knows did.joins.from did.joins.before did.closed.parts did.closed.went
          (subst (GrowsTo old s.knows) (sym (did.joins.parts_of s is).knows_is) (grows_there old name s are.kin is)) did.joins.went_so

      on : (stop : Went) → CameClose name moved v did.closed.parts stop old new found → AreTasks root new
      on went.On came = finished_keeps did.closed.parts (end.Value v) grows came
      on (went.Waits future next) came = parts_keep did.closed.parts (stages.Closing (record { machine = moved; value = v; next = next })) moved_inside grows came.tasks
      on (went.Ended e) came = finished_keeps did.closed.parts e grows came

  -- the child is there, and the task goes on with its future
  put_child : (f : Forked) (child : Evaluation) (actor : Option Name) → child.inside ≡ true → ((t : Task) → named name old ≡ Some t → IsForked t actor f) → IsPut name moved f child old new found → AreTasks root new
  put_child f child actor inside forked did =
      let so = forked kept.task kept.there in
      let fresh_kin = put_child_kin old are.kin name f.future kept.task (child_task f child) kept.there did.fresh (child_knows so) in
      changed_keeps root name (with_named old f.future (child_task f child)) new (HasParts f.parent (stages.Going did.machine))
      (λ s t same. same_inside t (record { log = f.parent.log; knows = f.parent.knows; stage = stages.Going did.machine }) same
      (given_inside (answer.Value (value.Future f.future)) did.machine did.given_so))
      (λ s t is same. parent_knows so s t is (ap (λ (x : Task). x.knows) same))
      (some_put name f.future (child_task f child) old (kept_some name moved old kept)) did.tasks (put_keeps root f.future (child_task f child) old are inside fresh_kin)
    where
      child_knows : IsForked kept.task actor f → (g : Name) → is_known (child_task f child).knows g ≡ is_known kept.task.knows g
      child_knows so g = ap (λ (k : Knowledge). is_known k g) so.child_knows

      the_same : (s : Task) → named name (with_named old f.future (child_task f child)) ≡ Some s → named name (with_named old f.future (child_task f child)) ≡ Some kept.task → s ≡ kept.task
      the_same s one other = let both : Some s ≡ Some kept.task = sym one ∙ other in cc

      parent_knows : IsForked kept.task actor f → (s t : Task) → named name (with_named old f.future (child_task f child)) ≡ Some s → t.knows ≡ f.parent.knows → GrowsTo (with_named old f.future (child_task f child)) s.knows t.knows
      parent_knows so s t is same =
          let one = the_same s is (parent_is old are.kin name f.future kept.task (child_task f child) kept.there did.fresh (child_knows so)) in
          subst (λ (x : Task). GrowsTo (with_named old f.future (child_task f child)) x.knows t.knows) (sym one)
          (subst (GrowsTo (with_named old f.future (child_task f child)) kept.task.knows) (sym same)
          (parent_grows old are.kin name f.future kept.task (child_task f child) kept.there did.fresh (child_knows so) f.parent.knows so.parent_knows))

  pub fork_keeps : (actor : Option Name) (fuel : ℕ) (body : NodeId) (values : List Datum) → CameFork name moved actor fuel body values old new found → AreTasks root new
  fork_keeps actor fuel body values (forks did) = put_child did.fork did.child actor did.begun.inside (λ t is. (did.forks t is).1) did.put
  fork_keeps actor fuel body values (refused did) = answered_keeps (answer.Fault code.ForkTooDeep) did.given
