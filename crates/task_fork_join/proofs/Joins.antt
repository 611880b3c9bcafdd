-- A join that a task asks for.
use Rattle.std.proofs.Common.{◌≡◌, ◌∙◌, ℕ, ◌≤◌, Bool, true, false, cond, List, [], ◌∷◌, ◌++◌, refl, sym, ap, subst, Option, Some, None, arith}
use Rattle.std.specs.Prelude.{◌||◌, is_some, IfSome}
use Rattle.std.specs.Option.{option_map}
use Rattle.eval_step.specs.Evaluation.{Evaluation}
use Rattle.serial_model.proofs.standing.Requests as step
use Rattle.serial_model.proofs.standing.Requests.{task_at}
use Rattle.serial_model.specs.declared.answer.Answer.{Answer}
use Rattle.serial_model.specs.declared.answer.Answer.TheVariants as answer
use Rattle.serial_model.specs.declared.halt.Halt.{Halt}
use Rattle.serial_model.specs.declared.halt.Halt.TheVariants as halt
use Rattle.serial_model.specs.declared.request.Request.TheVariants as request
use Rattle.serial_model.specs.Eval.{next}
use Rattle.serial_model.specs.Log.{Log, merged}
use Rattle.serial_model.specs.Standing.{Agrees, EachTask, Ended, Going, IsAt, Runs, Stage, Start, Tasks, is_there}
use Rattle.serial_model.specs.Task.{Around, Result}
use Rattle.task_fork_join.proofs.Members.{StandsAt, among_both, given_machine, going_at, staged, stepped}
use Rattle.task_fork_join.proofs.Members as members
use Rattle.task_fork_join.proofs.Replying.{member_at, waited}
use Rattle.task_fork_join.specs.Attempt.{Attempt, levels_below, outcome_of, stage_of, tasks_of, tree_task}
use Rattle.task_fork_join.specs.declared.joining.Joined.{Joined}
use Rattle.task_fork_join.specs.declared.joining.Met.{Met}
use Rattle.task_fork_join.specs.declared.joining.Met.TheVariants as met
use Rattle.task_fork_join.specs.declared.stepped.Stepped.{Stepped}
use Rattle.task_fork_join.specs.declared.stepped.Stepped.TheVariants as stepped_as
use Rattle.task_fork_join.specs.declared.task.Parts.{Parts}
use Rattle.task_fork_join.specs.declared.task.Stage.TheVariants as kept
use Rattle.task_fork_join.specs.declared.task.Task.{Task}
use Rattle.task_fork_join.specs.declared.task_end.TaskEnd.{TaskEnd}
use Rattle.task_fork_join.specs.declared.task_end.TaskEnd.TheVariants as end
use Rattle.task_fork_join.specs.Joining.{known_in, CameJoin, CamePlain, IsEnded, IsJoin, IsMerged, IsMet, IsMetAs, IsMetBy, IsNoValue, IsTaken}
use Rattle.task_fork_join.specs.Running.{HasMachine, IsMember, IsMove, IsRun}
use Rattle.task_fork_join.specs.Step.{Stays}
use Rattle.task_fork_join.specs.Stepping.{IsAnswered, IsGiven, IsWaiting}
use Rattle.txn_snapshot.specs.SnapshotTask.{SnapshotTask, AreAmong}
use Rattle.value_core.proofs.NamedViews.{named-each_as, view_found}
use Rattle.value_core.specs.declared.value.Value.{Value as Datum}
use Rattle.task_fork_join.specs.Knowledge.{is_known}
use Rattle.value_core.specs.Named.{Name, Named, is_among, named, with_named}
use Rattle.value_core.specs.Place.{Spot}

-- an end that is no value is a bad outcome
pub bad : (e : TaskEnd) → IsNoValue e → step.IsBad (outcome_of e)
bad (end.Value v) never = absurd never
bad (end.Fault code at) is = tt
bad end.Spent is = tt

-- the task of the future as it stands, where it ended so
pub child_at : (around : Around) (results : Name → Result) (tasks : Named Task) (future : Name) (child : Task) (e : TaskEnd) → EachTask (IsAt around results) (tasks_of tasks) → named future tasks ≡ Some child → child.stage ≡ kept.Ended e
    → IsAt around results future (task_at (levels_below child.log.depth) child.log.base child.knows.keys child.log.log (Ended (outcome_of e)))
child_at around results tasks future child e each there stage =
    subst (λ (s : Stage). IsAt around results future (task_at (levels_below child.log.depth) child.log.base child.knows.keys child.log.log s)) (ap stage_of stage)
    (each future (tree_task child) (view_found tree_task future tasks child there))

-- a child is merged under its own name
pub merged_so : (log : Log) (child : Log) (future : Name) → child.name ≡ future → merged log (record child { name = future }) ≡ merged log child
merged_so log child future is = ap (λ n. merged log (record child { name = n })) (sym is)

-- which of both knows it
pub of_both : (there a b : Bool) → (a || b) ≡ true → (a ≡ true → there ≡ true) → (b ≡ true → there ≡ true) → there ≡ true
of_both there true b is first second = first refl
of_both there false b is first second = second is

-- what is not kept is not there
pub not_there : (tasks : Named Task) (f : Name) → named f tasks ≡ None → is_there (tasks_of tasks) f ≡ false
not_there tasks f none = ap is_some (named-each_as tree_task f tasks) ∙ ap (λ (o : Option Task). is_some (option_map tree_task o)) none

module _ (start : Start) (at : Spot) (base finished : Name → Option Datum) (old new : Attempt) (name : Name) (moved : Evaluation) (run : IsRun start at base finished old) (is : StandsAt name (going_at moved) old.tasks) (stays_so : Stays old new)
    (reads_are : new.reads ≡ old.reads) where
  abbrev t : Task
  t = is.task

  abbrev levels : ℕ
  levels = levels_below t.log.depth

  abbrev AtMoved : Around → (Name → Result) → Type 0
  AtMoved around results = IsAt around results name (task_at levels t.log.base t.knows.keys t.log.log (Going moved.body moved.values moved.answers))

  abbrev Each : Around → (Name → Result) → Type 0
  Each around results = EachTask (IsAt around results) (tasks_of old.tasks)

  abbrev Halts : Around → Halt → Type 0
  Halts around halts = next around.program moved.body moved.values true moved.answers around.fuel ≡ halts

  -- it is answered, and else nothing changes
  pub answered : (halts : Halt) → IsMove start moved halts → (given : Answer) (found : Stepped) → IsAnswered name moved given old.tasks new.tasks found
      → ((around : Around) → Agrees start base new.reads finished around → (results : Name → Result) → Each around results → Halts around halts → AtMoved around results
      → IsAt around results name (task_at levels t.log.base t.knows.keys t.log.log (Going moved.body moved.values (moved.answers ++ given ∷ []))))
      → IsRun start at base finished new
  answered halts move given found did steps =
      let to = did.tasks t is.there in
      staged start at base finished old new name moved halts (going_at moved) run is move stays_so to.item (Going moved.body moved.values (moved.answers ++ given ∷ [])) to.put
      (ap (λ (s : Task). s.log) to.related) (ap (λ (s : Task). s.knows) to.related)
      (ap (λ (s : Task). stage_of s.stage) to.related ∙ (λ i. Going (did.given_so.same.body i) (did.given_so.same.values i) (did.given_so.answers i))) reads_are
      (member_at start at base finished old new name moved run is stays_so to.item (ap (λ (s : Task). s.log) to.related) reads_are
      (subst (λ (s : Task). HasMachine start s.stage) (sym to.related) (given_machine start at base finished moved did.machine given move.machine did.given_so)))
      steps

  -- it ends, and else nothing changes
  pub ended : (halts : Halt) → IsMove start moved halts → (e : TaskEnd) (found : Stepped) → IsEnded name e old.tasks new.tasks found
      → ((around : Around) → Agrees start base new.reads finished around → (results : Name → Result) → Each around results → Halts around halts → AtMoved around results
      → IsAt around results name (task_at levels t.log.base t.knows.keys t.log.log (Ended (outcome_of e))))
      → IsRun start at base finished new
  ended halts move e found did steps =
      let to = did.tasks t is.there in
      staged start at base finished old new name moved halts (going_at moved) run is move stays_so to.item (Ended (outcome_of e)) to.put
      (ap (λ (s : Task). s.log) to.related) (ap (λ (s : Task). s.knows) to.related) (ap (λ (s : Task). stage_of s.stage) to.related) reads_are
      (member_at start at base finished old new name moved run is stays_so to.item (ap (λ (s : Task). s.log) to.related) reads_are (subst (λ (s : Task). HasMachine start s.stage) (sym to.related) tt))
      steps

  module _ (future : Name) (place : Spot) (move : IsMove start moved (halt.Ask (request.Join future) place)) where
    abbrev asks : Halt
    asks = halt.Ask (request.Join future) place

    -- a plain task
    pub plain : (outer : Option Datum) (found : Stepped) → is_known t.knows future ≡ false → IfSome outer (λ v. finished future ≡ Some v) → CamePlain name moved future outer old.tasks new.tasks found
        → IsRun start at base finished new
    plain None found unknown done came = waited start at base finished old new name moved run is stays_so asks move (stepped_as.WaitJoin future) found came reads_are
    plain (Some v) found unknown done came = answered asks move (answer.Value v) found came (λ around agrees results each so at_it.
        step.plain around results name levels t.log.base t.knows.keys t.log.log moved.body moved.values moved.answers at_it future place v so unknown (agrees.finished_so future v done))

    module _ (known : is_known t.knows future ≡ true) (child : Task) (there : named future old.tasks ≡ Some child) where
      formed_so : child.log.log.name ≡ future
      formed_so = (run.runs.formed future (tree_task child) (view_found tree_task future old.tasks child there)).named_so

      child_knows : (f : Name) → is_among f child.knows.keys ≡ true → is_there (tasks_of old.tasks) f ≡ true
      child_knows = (run.runs.formed future (tree_task child) (view_found tree_task future old.tasks child there)).knows_there

      -- it is joined for the first time
      pub first : (joined : Joined) (found : Stepped) → child.stage ≡ kept.Ended (end.Value joined.value) → is_among future t.log.log.joined ≡ false → IsMerged future child t.log t.knows joined.parts
          → IsTaken name moved joined old.tasks new.tasks found → IsRun start at base finished new
      first joined found stage apart merges took =
          let to = took.tasks t is.there in
          stepped start at base finished old new name moved asks (going_at moved) run is move stays_so to.item joined.parts.knows.keys (merged t.log.log child.log.log)
          (Going moved.body moved.values (moved.answers ++ answer.Value joined.value ∷ [])) to.put
          (came_task to.item to.related)
          reads_are
          (record {
            machine = subst (λ (s : Task). HasMachine start s.stage) (sym to.related) (given_machine start at base finished moved took.machine (answer.Value joined.value) move.machine took.given_so);
            actor = ap (λ (s : Task). s.log.actor) to.related ∙ ap (λ (l : SnapshotTask). l.actor) merges.log_is ∙ (run.members name t is.there).actor;
            reads_so = λ ref among. ap (is_among ref) reads_are ∙ among_both t.log.reads child.log.reads old.reads (run.members name t is.there).reads_so (run.members future child there).reads_so ref
                (ap (λ (l : SnapshotTask). is_among ref l.reads) (sym merges.log_is) ∙ ap (λ (s : Task). is_among ref s.log.reads) (sym to.related) ∙ among);
          })
          refl (omega arith)
          (λ f among. of_both (is_there (tasks_of old.tasks) f) (is_known t.knows f) (is_known child.knows f) (sym (merges.both f) ∙ among)
          (members.knows_there start at base finished old new name moved asks (going_at moved) run is move stays_so f) (child_knows f))
          (λ around agrees results each so at_it.
          step.joined_first around results name levels t.log.base t.knows.keys t.log.log moved.body moved.values moved.answers at_it future place so known
          (levels_below child.log.depth) child.log.base child.knows.keys child.log.log joined.value joined.parts.knows.keys (child_at around results old.tasks future child (end.Value joined.value) each there stage) apart merges.both)
        where
          came_task : (t' : Task) → t' ≡ record { log = joined.parts.log; knows = joined.parts.knows; stage = kept.Going took.machine }
              → tree_task t' ≡ task_at levels t.log.base joined.parts.knows.keys (merged t.log.log child.log.log) (Going moved.body moved.values (moved.answers ++ answer.Value joined.value ∷ []))
          came_task t' related = ap tree_task related
              ∙ (λ i. task_at (levels_below (merges.log_is i).depth) (merges.log_is i).base joined.parts.knows.keys (merges.log_is i).log (Going (took.given_so.same.body i) (took.given_so.same.values i) (took.given_so.answers i)))
              ∙ ap (λ (l : Log). task_at levels t.log.base joined.parts.knows.keys l (Going moved.body moved.values (moved.answers ++ answer.Value joined.value ∷ []))) (merged_so t.log.log child.log.log future formed_so)

      pub met_known : (meets : Met) (outer : Option Datum) (found : Stepped) → IsMetBy t child future meets → CameJoin name moved future outer meets old.tasks new.tasks found → IsRun start at base finished new
      met_known met.Unknown outer found never came = absurd never
      met_known met.Unfinished outer found goes came = waited start at base finished old new name moved run is stays_so asks move (stepped_as.WaitJoin future) found came reads_are
      met_known (met.First joined) outer found by came = first joined found by.0 by.1 by.2 came
      met_known (met.Again v) outer found by came = answered asks move (answer.Value v) found came (λ around agrees results each so at_it.
          step.joined_again around results name levels t.log.base t.knows.keys t.log.log moved.body moved.values moved.answers at_it future place so known
          (levels_below child.log.depth) child.log.base child.knows.keys child.log.log v (child_at around results old.tasks future child (end.Value v) each there by.0) by.1)
      met_known (met.Ended e) outer found by came = ended asks move e found came (λ around agrees results each so at_it.
          step.joined_badly around results name levels t.log.base t.knows.keys t.log.log moved.body moved.values moved.answers at_it future place so known
          (levels_below child.log.depth) child.log.base child.knows.keys child.log.log (outcome_of e) (bad e by.1) (child_at around results old.tasks future child e each there by.0))

    pub joined : (outer : Option Datum) (found : Stepped) → IfSome outer (λ v. finished future ≡ Some v) → IsJoin name moved future outer old.tasks new.tasks found → IsRun start at base finished new
    joined outer found done join = on (is_known t.knows future) (named future old.tasks) refl refl (join.met_so t is.there)
      where
        unknown : (meets : Met) → meets ≡ met.Unknown → is_known t.knows future ≡ false → CameJoin name moved future outer meets old.tasks new.tasks found → IsRun start at base finished new
        unknown meets same apart came = plain outer found apart done (subst (λ m. CameJoin name moved future outer m old.tasks new.tasks found) same came)

        on : (b : Bool) (child : Option Task) → is_known t.knows future ≡ b → named future old.tasks ≡ child → IsMetAs (cond b child None) t future join.meets → IsRun start at base finished new
        on false child apart there it = unknown join.meets it apart join.came
        on true None known none it = absurd (let here = members.knows_there start at base finished old new name moved asks (going_at moved) run is move stays_so future known in let lost = not_there old.tasks future none in cc)
        on true (Some child) known there it = met_known known child there join.meets outer found it join.came
