use Rattle.std.proofs.Common.{◌∙◌, sym}
use Rattle.attempt_steps.proofs.Taking.{decided-waits}
use Rattle.world_steps.specs.Kept.{shared_of}
use Rattle.attempt_steps.proofs.tasks.decide_or_wait.Goals as goal

pub returns-then-is_err : goal.returns-then-is_err
returns-then-is_err c =
    decided-waits (shared_of c.args.kept.now) (shared_of c.decide_at-decided.new.kept) (shared_of c.mark_task.new.kept) c.args.owner.now c.args.task.now c.args.before c.decide_at-decided.result (sym c.is_err.ensures.value ∙ c.if-is_err.true)
    c.decide_at-decided.ensures c.mark_task.ensures
