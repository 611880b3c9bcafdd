-- An attempt that runs a transaction ends as the transaction does.
use Rattle.std.proofs.Common.{◌≡◌, ◌∙◌, Bool, true, false, cond, refl, sym, ap, subst, Option, Some, None}
use Rattle.std.specs.Option.{option_and_then}
use Rattle.serial_model.proofs.standing.Requests.{task_at}
use Rattle.serial_model.proofs.standing.Trees.{ended-so}
use Rattle.serial_model.specs.Log.{Log}
use Rattle.serial_model.specs.Standing.{Agrees, Ended, Start}
use Rattle.serial_model.specs.Task.{Around, Fault, Outcome, Value, root_outcome, root_task}
use Rattle.task_fork_join.specs.Attempt.{Attempt, end_at, end_by, end_of, levels_below, outcome_of, stage_of, tasks_of, tree_task, unless_escaping}
use Rattle.task_fork_join.specs.declared.task.Stage.{Stage as KeptStage}
use Rattle.task_fork_join.specs.declared.task.Stage.TheVariants as kept
use Rattle.task_fork_join.specs.declared.task.Task.{Task}
use Rattle.task_fork_join.specs.declared.task_end.TaskEnd.{TaskEnd}
use Rattle.task_fork_join.specs.declared.task_end.TaskEnd.TheVariants as end
use Rattle.task_fork_join.specs.Running.{EndsAreOfTransactions, EndsAs, IsRun}
use Rattle.value_core.proofs.NamedViews.{view_found}
use Rattle.value_core.specs.declared.code.Code.TheVariants as code
use Rattle.value_core.specs.declared.value.Value.{Value as Datum}
use Rattle.value_core.specs.Futures.{holds_future}
use Rattle.value_core.specs.Named.{Name, named}
use Rattle.value_core.specs.Place.{Spot}

some_same : {X : Type 0} (x y : X) → Some x ≡ Some y → x ≡ y
some_same x y e = cc

-- a value that holds a future is that fault
escapes : (at : Spot) (e : TaskEnd) → root_outcome at (outcome_of e) ≡ outcome_of (unless_escaping (end.Fault code.FutureEscapes at) e)
escapes at (end.Value v) = on (holds_future v)
  where
    on : (b : Bool) → cond b (Fault code.FutureEscapes at) (Value v) ≡ outcome_of (cond b (end.Fault code.FutureEscapes at) (end.Value v))
    on true = refl
    on false = refl
escapes at (end.Fault c place) = refl
escapes at end.Spent = refl

module _ (start : Start) (at : Spot) (base finished : Name → Option Datum) (tree : Attempt) (run : IsRun start at base finished tree) (around : Around) (agrees : Agrees start base tree.reads finished around) where
  root_ended : (t : Task) (e ended : TaskEnd) → named tree.root tree.tasks ≡ Some t → t.stage ≡ kept.Ended e → unless_escaping tree.escape e ≡ ended → EndsAs start at tree ended around
  root_ended t e ended there stage is =
      let so = ended-so start base finished (tasks_of tree.tasks) tree.reads (levels_below t.log.depth) t.log.base t.knows.keys t.log.log (outcome_of e) run.runs
      (view_found tree_task start.name tree.tasks t (ap (λ n. named n tree.tasks) (sym run.root) ∙ there)
      ∙ ap (λ s. Some (task_at (levels_below t.log.depth) t.log.base t.knows.keys t.log.log s)) (ap stage_of stage)) around agrees in
      record {
        outcome = ap (root_outcome at) so.0 ∙ escapes at e ∙ ap (λ x. outcome_of (unless_escaping x e)) (sym run.escape) ∙ ap outcome_of is;
        log = λ s named_so. so.1 ∙ ap (λ (x : Task). x.log.log) (some_same t s (sym there ∙ named_so));
      }

  pub ends_as : (ended : TaskEnd) → end_at tree ≡ Some ended → EndsAs start at tree ended around
  ends_as ended is = on (named tree.root tree.tasks) refl is
    where
      at_stage : (t : Task) (stage : KeptStage) → named tree.root tree.tasks ≡ Some t → t.stage ≡ stage → end_by tree.escape (end_of stage) ≡ Some ended → EndsAs start at tree ended around
      at_stage t (kept.Going machine) there stage is = absurd (cc)
      at_stage t (kept.Closing closing) there stage is = absurd (cc)
      at_stage t (kept.Ended e) there stage is = root_ended t e ended there stage (some_same (unless_escaping tree.escape e) ended is)

      on : (o : Option Task) → named tree.root tree.tasks ≡ o → end_by tree.escape (option_and_then (λ (t : Task). end_of t.stage) o) ≡ Some ended → EndsAs start at tree ended around
      on None there is = absurd (cc)
      on (Some t) there is = at_stage t t.stage there refl is

pub ends_are_of_transactions : EndsAreOfTransactions
ends_are_of_transactions start at base finished tree ended run is around agrees = ends_as start at base finished tree run around agrees ended is
