-- The child of a step that forks.
use Rattle.std.proofs.Common.{◌≡◌, ◌∙◌, refl, sym, ap, subst}
use Rattle.std.specs.Option.{option_map}
use Rattle.std.specs.Prelude.{None, Option, Some}
use Rattle.attempt_steps.proofs.Wanting.{HasTaken, kept-so}
use Rattle.attempt_steps.specs.declared.tasks.Child.{Child}
use Rattle.attempt_steps.specs.Tasks.{IsCalled, IsNext, IsNextIfForked, IsOfStep, IsTaskOf}
use Rattle.eval_step.specs.Evaluation.{Evaluation}
use Rattle.serial_model.specs.declared.halt.Halt.{Halt}
use Rattle.task_fork_join.proofs.StepShapes.{IsForking, IsShaped, shaped}
use Rattle.shared_world.specs.rows.Tasks.{outer_of}
use Rattle.shared_world.specs.Shared.{Shared}
use Rattle.task_fork_join.specs.Attempt.{Attempt, IsKept}
use Rattle.task_fork_join.specs.declared.stepped.Stepped.{Stepped}
use Rattle.task_fork_join.specs.declared.stepped.Stepped.TheVariants as stepped
use Rattle.task_fork_join.specs.declared.task.Task.{Task}
use Rattle.txn_snapshot.specs.SnapshotAnswer.{snapshot_of}
use Rattle.value_core.specs.Named.{Name, made_by, named}

-- what the task makes next is the child that it forked
called : (tree : Attempt) (task c : Name) (h : Halt) (t : Task) (child : Option Child) → named task tree.tasks ≡ Some t → IsForking tree.tasks task h c → IsNextIfForked h tree task child → IsCalled child c
called tree task c h t child there forking next = on child (subst (λ k. IsNextIfForked k tree task child) forking.asks next)
  where
    on : (o : Option Child) → IsNext tree task o → IsCalled o c
    on None is = absurd is
    on (Some k) is =
        let made : Some (made_by t.log.log.name t.log.log.made) ≡ Some k.name = sym (ap (option_map (λ (t : Task). made_by t.log.log.name t.log.log.made)) there) ∙ is in
        let name : made_by t.log.log.name t.log.log.made ≡ k.name = cc in
        sym name ∙ sym (forking.next t there)

pub of-step : (old mid : Shared) (owner task : Name) (moved : Evaluation) (h : Halt) (is : IsTaskOf old owner task moved h) (went : Stepped) (t : HasTaken old mid owner task moved h is went) (child : Option Child) → IsNextIfForked h is.tree task child → IsOfStep child went
of-step old mid owner task moved h is went t child next = by went refl
  where
    kept : IsKept task moved is.tree.tasks
    kept = kept-so is.tree task is.machine moved is.kept is.same

    shape : IsShaped is.tree.tasks task (outer_of old.board h) h went t.after.tasks
    shape = shaped (snapshot_of old.versions is.tree.snapshot) task moved (outer_of old.board h) is.tree t.after went kept.task kept.there h t.step.comes

    by : (w : Stepped) → went ≡ w → IsOfStep child w
    by stepped.Now e = tt
    by (stepped.Forked c) e = called is.tree task c h kept.task child kept.there (shape.forking c e) next
    by (stepped.WaitJoin f) e = tt
    by (stepped.NotInSnapshot ref) e = tt
    by stepped.Finished e = tt
