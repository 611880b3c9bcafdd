use Rattle.std.proofs.Common.{◌≡◌, ◌∙◌, ap, subst}
use Rattle.task_fork_join.specs.Stepping.{HasParts}
use Rattle.task_fork_join.specs.declared.task.Stage.TheVariants as kept
use Rattle.task_fork_join.specs.declared.task.Task.{Task}
use Rattle.value_core.specs.Named.{IsChanged, Named, with_named}
use Rattle.task_fork_join.proofs.forking.put_begun.Goals as goal

pub returns-in-Ok-clause-put : goal.returns-in-Ok-clause-put
returns-in-Ok-clause-put c =
    subst (λ (es : Named Task). IsChanged c.args.name.now es c.set.new.tasks.entries (HasParts c.args.begun.forked.parent (kept.Going c.args.machine)))
    (c.in-Ok.ensures.put ∙ ap (with_named c.args.tasks.now.entries c.args.begun.forked.future) c.begins.ensures) c.set.ensures
