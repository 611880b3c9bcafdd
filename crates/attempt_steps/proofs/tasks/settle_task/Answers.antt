use Rattle.std.proofs.Common.{◌≡◌, ap, subst}
use Rattle.std.specs.Prelude.{IfSome, is_some}
use Rattle.attempt_steps.proofs.Ended.{settled-task}
use Rattle.world_steps.specs.Kept.{shared_of}
use Rattle.shared_world.proofs.UndoesMarks.{marked-beside}
use Rattle.shared_world.specs.Shared.{is_going}
use Rattle.task_fork_join.specs.Attempt.{end_at}
use Rattle.value_core.specs.Named.{named}
use Rattle.attempt_steps.proofs.tasks.settle_task.Goals as goal

pub returns-then-has_ended : goal.returns-then-has_ended
returns-then-has_ended c =
    let s = shared_of c.args.kept.now in
    settled-task s (shared_of c.decide_or_wait.new.kept) c.args.owner.now c.args.task.now c.in_ok-_next._next c.count_done-before.result c.decide_or_wait.result c.requires.stands (ap is_going c.requires.going) c.requires.owned c.in_ok-_next.ensures c.count_done-before.ensures
    (subst (λ b. IfSome (named c.args.owner.now s.attempts) (λ tree. b ≡ is_some (end_at tree))) c.if-has_ended.true c.has_ended.ensures) c.decide_or_wait.ensures

pub decide_or_wait-requires-clause-marks : goal.decide_or_wait-requires-clause-marks
decide_or_wait-requires-clause-marks c = marked-beside (shared_of c.args.kept.now) c.args.owner.now c.requires.marks
