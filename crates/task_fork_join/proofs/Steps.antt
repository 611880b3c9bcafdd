-- A step keeps that an attempt runs its transaction.
use Rattle.std.proofs.Common.{◌≡◌, ◌∙◌, true, refl, sym, ap, subst, Option, Some, None}
use Rattle.std.specs.Prelude.{IfSome}
use Rattle.eval_step.specs.Evaluation.{Evaluation, IsSame}
use Rattle.serial_model.specs.declared.halt.Halt.{Halt}
use Rattle.serial_model.specs.declared.halt.Halt.TheVariants as halt
use Rattle.serial_model.specs.declared.request.Request.{Request}
use Rattle.serial_model.specs.declared.request.Request.TheVariants as request
use Rattle.serial_model.proofs.standing.Requests as step
use Rattle.serial_model.proofs.standing.Requests.{task_at}
use Rattle.serial_model.specs.Eval.{next}
use Rattle.serial_model.specs.Standing.{Closing, Going, IsAt, Stage, Start}
use Rattle.serial_model.specs.Task.{Around, Result}
use Rattle.task_fork_join.proofs.Closes.{close_came}
use Rattle.task_fork_join.proofs.Forks.{fork_came}
use Rattle.task_fork_join.proofs.Joins.{ended, joined}
use Rattle.task_fork_join.proofs.Members.{StandsAt, going_at}
use Rattle.task_fork_join.proofs.Replying.{acted}
use Rattle.task_fork_join.specs.Attempt.{Attempt, levels_below, machine_at, stage_of}
use Rattle.task_fork_join.specs.Closing.{next_join}
use Rattle.task_fork_join.specs.declared.stepped.Stepped.{Stepped}
use Rattle.task_fork_join.specs.declared.task.Closing.{Closing as Closed}
use Rattle.task_fork_join.specs.declared.task.Stage.{Stage as KeptStage}
use Rattle.task_fork_join.specs.declared.task.Stage.TheVariants as kept
use Rattle.task_fork_join.specs.declared.task.Task.{Task}
use Rattle.task_fork_join.specs.declared.task_end.TaskEnd.TheVariants as end
use Rattle.task_fork_join.specs.Running.{HasMachine, IsFinishedAs, IsMove, IsRun, StepsKeepRuns}
use Rattle.task_fork_join.specs.Step.{Asks, Comes, Stays}
use Rattle.value_core.specs.declared.value.Value.{Value as Datum}
use Rattle.value_core.specs.Named.{Name, named}
use Rattle.value_core.specs.Place.{Spot}

-- a task that goes on begins its joins with the first thing that it made
from_first : (stage : KeptStage) (moved : Evaluation) → stage_of stage ≡ going_at moved → next_join stage ≡ 0
from_first (kept.Going machine) moved is = refl
from_first (kept.Closing closing) moved is = absurd (cc)
from_first (kept.Ended ended) moved is = absurd (cc)

module _ (start : Start) (at : Spot) (base finished refs : Name → Option Datum) (old new : Attempt) (name : Name) (moved : Evaluation) (outer : Option Datum) (found : Stepped)
    (run : IsRun start at base finished old) (is : StandsAt name (going_at moved) old.tasks) (same : (ref : Name) → refs ref ≡ base ref) (stays : Stays old new) where
  asked_so : (asked : Request) (place : Spot) → IsMove start moved (halt.Ask asked place) → IsFinishedAs finished (halt.Ask asked place) outer → Asks refs name moved outer asked old new found → IsRun start at base finished new
  asked_so (request.Print text) place move done did = acted start at base finished old new name moved run is stays (request.Print text) place move refs found same did
  asked_so (request.NewRef v) place move done did = acted start at base finished old new name moved run is stays (request.NewRef v) place move refs found same did
  asked_so (request.Deref ref) place move done did = acted start at base finished old new name moved run is stays (request.Deref ref) place move refs found same did
  asked_so (request.RefSet ref v) place move done did = acted start at base finished old new name moved run is stays (request.RefSet ref v) place move refs found same did
  asked_so (request.Fork body values) place move done did = fork_came start at base finished old new name moved run is stays did.reads body values place move found did.does
  asked_so (request.Join future) place move done did = joined start at base finished old new name moved run is stays did.reads future place move outer found done did.does
  asked_so (request.Dosync body values) place move done did = absurd did
  asked_so (request.Spawn behaviour state) place move done did = acted start at base finished old new name moved run is stays (request.Spawn behaviour state) place move refs found same did
  asked_so (request.Send to message) place move done did = acted start at base finished old new name moved run is stays (request.Send to message) place move refs found same did
  asked_so (request.Become behaviour state) place move done did = acted start at base finished old new name moved run is stays (request.Become behaviour state) place move refs found same did
  asked_so request.SelfActor place move done did = acted start at base finished old new name moved run is stays request.SelfActor place move refs found same did

  came_so : (halts : Halt) → IsMove start moved halts → IsFinishedAs finished halts outer → Comes refs name moved outer halts old new found → IsRun start at base finished new
  came_so (halt.Ask asked place) move done did = asked_so asked place move done did
  came_so (halt.Value v) move done did =
      let from = did.does.joins.from_so is.task is.there ∙ from_first is.task.stage moved is.stage in
      close_came start at base finished old new name moved (going_at moved) run is stays did.reads v move did.does.joins.from did.does.joins.before (did.does.joins.parts_of is.task is.there)
      (λ around results so at_it. subst (λ n. IsAt around results name (task_at (levels_below is.task.log.depth) is.task.log.base is.task.knows.keys is.task.log.log (Closing v n))) (sym from)
      (step.valued around results name (levels_below is.task.log.depth) is.task.log.base is.task.knows.keys is.task.log.log moved.body moved.values moved.answers at_it v so))
      did.does.closed.parts did.does.closed.went found did.does.joins.went_so did.does.came
  came_so (halt.Fault code place) move done did = ended start at base finished old new name moved run is stays did.reads (halt.Fault code place) move (end.Fault code place) found did.does
      (λ around agrees results each so at_it. step.faults around results name (levels_below is.task.log.depth) is.task.log.base is.task.knows.keys is.task.log.log moved.body moved.values moved.answers at_it code place so)
  came_so halt.Spent move done did = ended start at base finished old new name moved run is stays did.reads halt.Spent move end.Spent found did.does
      (λ around agrees results each so at_it. step.spent around results name (levels_below is.task.log.depth) is.task.log.base is.task.knows.keys is.task.log.log moved.body moved.values moved.answers at_it so)

-- a step of a task that is at its value
module _ (start : Start) (at : Spot) (base finished refs : Name → Option Datum) (old new : Attempt) (name : Name) (moved : Evaluation) (outer : Option Datum) (found : Stepped)
    (run : IsRun start at base finished old) (stays : Stays old new) (t : Task) (there : named name old.tasks ≡ Some t) (closing : Closed) (stage : t.stage ≡ kept.Closing closing) where
  abbrev was : Stage
  was = Closing closing.value closing.next

  abbrev At : Around → (Name → Result) → Stage → Type 0
  At around results stage = IsAt around results name (task_at (levels_below t.log.depth) t.log.base t.knows.keys t.log.log stage)

  abbrev standing : StandsAt name was old.tasks
  standing = record { task = t; there = there; stage = ap stage_of stage }

  again : (halts : Halt) → halts ≡ halt.Value closing.value → IsMove start moved halts → Comes refs name moved outer halts old new found → IsRun start at base finished new
  again (halt.Ask asked place) is move did = absurd (cc)
  again (halt.Value v) is move did =
      let same : closing.value ≡ v = cc in
      let from = did.does.joins.from_so t there ∙ ap next_join stage in
      close_came start at base finished old new name moved was run standing stays did.reads v move did.does.joins.from did.does.joins.before (did.does.joins.parts_of t there)
      (λ around results so at_it. subst (λ n. At around results (Closing v n)) (sym from) (subst (λ w. At around results (Closing w closing.next)) same at_it))
      did.does.closed.parts did.does.closed.went found did.does.joins.went_so did.does.came
  again (halt.Fault code place) is move did = absurd (cc)
  again halt.Spent is move did = absurd (cc)

  -- its machine comes to that value
  valued : (machine : Evaluation) → machine_at t.stage ≡ Some machine → IsSame machine moved → (halts : Halt) → IsMove start moved halts → halts ≡ halt.Value closing.value
  valued machine kept_so same halts move =
      let its = subst (HasMachine start) stage (run.members name t there).machine in
      let both : Some closing.machine ≡ Some machine = sym (ap machine_at stage) ∙ kept_so in
      let one : closing.machine ≡ machine = cc in
      sym move.halts_so
      ∙ (λ i. next start.program (same.task.body i) (same.task.values i) true (same.answers i) start.fuel)
      ∙ ap (λ (m : Evaluation). next start.program m.body m.values true m.answers start.fuel) (sym one)
      ∙ its.comes

pub steps_keep_runs : StepsKeepRuns
steps_keep_runs start at base finished refs old new name moved outer halts found run is move done same did = on is.task.stage refl
  where
    on : (stage : KeptStage) → is.task.stage ≡ stage → IsRun start at base finished new
    on (kept.Going machine) stage =
        let both : Some machine ≡ Some is.machine = sym (ap machine_at stage) ∙ is.going in
        let one : machine ≡ is.machine = cc in
        came_so start at base finished refs old new name moved outer found run
        (record {
          task = is.task;
          there = is.there;
          stage = ap stage_of stage ∙ ap going_at one ∙ (λ i. Going (sym is.same.task.body i) (sym is.same.task.values i) (sym is.same.answers i));
        })
        same did.stays halts move done did.comes
    on (kept.Closing closing) stage =
        again start at base finished refs old new name moved outer found run did.stays is.task is.there closing stage halts
        (valued start at base finished refs old new name moved outer found run did.stays is.task is.there closing stage is.machine is.going is.same halts move) move did.comes
    on (kept.Ended ended) stage = let none : None ≡ Some is.machine = sym (ap machine_at stage) ∙ is.going in absurd (cc)
