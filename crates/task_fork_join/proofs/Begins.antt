-- An attempt of its root alone.
use Rattle.std.proofs.Common.{◌≡◌, ◌∙◌, true, false, List, [], ◌∷◌, ◌⊎◌, inl, inr, refl, sym, ap, subst, Option, Some, None}
use Rattle.eval_step.specs.Evaluation.{Evaluation}
use Rattle.serial_model.proofs.standing.Requests.{task_at}
use Rattle.serial_model.proofs.standing.Trees.{begun-run, root_of}
use Rattle.serial_model.specs.Log.{new_log}
use Rattle.serial_model.specs.Standing.{Going, Runs, Start, Tasks, TreeTask}
use Rattle.task_fork_join.specs.Knowledge.{no_names}
use Rattle.task_fork_join.specs.Attempt.{Attempt, levels_below, stage_of, tasks_of, tree_task, IsNew}
use Rattle.task_fork_join.specs.declared.task.Stage.TheVariants as kept
use Rattle.task_fork_join.specs.declared.task.Task.{Task}
use Rattle.task_fork_join.specs.Running.{AreMembers, HasMachine, IsMember, IsRootMachine, IsRun, NewAttemptsRun}
use Rattle.txn_snapshot.specs.SnapshotTask.{SnapshotTask, new_task}
use Rattle.value_core.proofs.NamedLaws.{found_first}
use Rattle.value_core.specs.declared.value.Value.{Value as Datum}
use Rattle.value_core.specs.Named.{Name, Named, is_among, named}
use Rattle.value_core.specs.Place.{Spot}

module _ (start : Start) (at : Spot) (base finished : Name → Option Datum) (machine : Evaluation) (tree : Attempt) (root : IsRootMachine start machine) (task : Task)
    (log_is : task.log ≡ new_task start.name [] 0 start.actor) (knows_none : task.knows ≡ no_names)
    (goes : task.stage ≡ kept.Going machine) where
  task_is : tree_task task ≡ root_of start
  task_is = (λ i. task_at (levels_below (log_is i).depth) (log_is i).base (knows_none i).keys (log_is i).log (stage_of (goes i)))
      ∙ (λ i. task_at 16 [] [] (new_log start.name) (Going (root.body i) (root.values i) (root.none i)))

  member : IsMember start [] task
  member = record {
    machine = subst (HasMachine start) (sym goes) root.machine_of;
    actor = ap (λ (l : SnapshotTask). l.actor) log_is;
    reads_so = λ ref among. ap (λ (l : SnapshotTask). is_among ref l.reads) (sym log_is) ∙ among;
  }

  members : AreMembers start [] ((start.name, task) ∷ [])
  members q s there = on (found_first q s (start.name, task) [] there)
    where
      on : ((q ≡ start.name) × (s ≡ task)) ⊎ (None ≡ Some s) → IsMember start [] s
      on (inl is) = subst (IsMember start []) (sym is.1) member
      on (inr none) = absurd (cc)

  runs : Runs start base finished (tasks_of ((start.name, task) ∷ [])) []
  runs = subst (λ (t : TreeTask). Runs start base finished ((start.name, t) ∷ []) []) (sym task_is) (begun-run start base finished)

pub new_attempts_run : NewAttemptsRun
new_attempts_run start at base finished machine snapshot tree root new = record {
  runs = subst (λ (rs : List Name). Runs start base finished (tasks_of tree.tasks) rs) (sym new.none_read)
      (subst (λ (ts : Named Task). Runs start base finished (tasks_of ts) []) (sym new.alone.tasks_are)
      (runs start at base finished machine tree root new.alone.task new.alone.log_is new.alone.knows_none new.alone.goes));
  members = subst (λ (rs : List Name). AreMembers start rs tree.tasks) (sym new.none_read)
      (subst (AreMembers start []) (sym new.alone.tasks_are) (members start at base finished machine tree root new.alone.task new.alone.log_is new.alone.knows_none new.alone.goes));
  read_there = λ ref among. absurd (let none : false ≡ true = sym (ap (is_among ref) new.none_read) ∙ among in cc);
  root = new.root_is;
  actor = new.actor_is;
  fuel = new.fuel_is;
  escape = new.escape_is;
}
