use Rattle.std.proofs.Common.{◌≡◌, ◌∙◌, ap, subst, sym}
use Rattle.std.specs.Prelude.{IfSome, None, is_some}
use Rattle.attempt_steps.proofs.Ended.{open-of, step-ended}
use Rattle.task_fork_join.specs.Attempt.{end_at}
use Rattle.value_core.specs.Named.{named}
use Rattle.world_steps.proofs.Forking.{same-stands}
use Rattle.attempt_steps.proofs.Wanting.{came-again, same-marks, same-wanting}
use Rattle.shared_world.proofs.UndoesMarks.{marked-beside}
use Rattle.shared_world.specs.Shared.{Shared, is_going}
use Rattle.world_steps.specs.Kept.{shared_of}
use Rattle.attempt_steps.proofs.tasks.step_task.Goals as goal

pub step_with-requires-clause-stands : goal.step_with-requires-clause-stands
step_with-requires-clause-stands c = same-stands (shared_of c.args.kept.now) (shared_of c.room_for_child.new.kept) c.requires.stands c.in-Ok.ensures.same

pub returns-in-Ok : goal.returns-in-Ok
returns-in-Ok c = came-again (shared_of c.args.kept.now) (shared_of c.room_for_child.new.kept) (shared_of c.step_with.new.kept) c.args.task.now c.step_with.result c.in-Ok.ensures.same c.step_with.ensures

pub returns-in-Err : goal.returns-in-Err
returns-in-Err c = same-wanting (shared_of c.args.kept.now) (shared_of c.room_for_child.new.kept) c.args.task.now c.requires.stands c.in-Err.ensures.same

pub returns-then-has_ended : goal.returns-then-has_ended
returns-then-has_ended c =
    let s = shared_of c.args.kept.now in
    step-ended s (shared_of c.decide_or_wait.new.kept) c.args.owner.now c.args.task.now c.args.moved c.args.halt c.count_done-before.result c.decide_or_wait.result c.requires.stands c.requires.task c.count_done-before.ensures
    (subst (λ b. IfSome (named c.args.owner.now s.attempts) (λ tree. b ≡ is_some (end_at tree))) c.if-has_ended.true c.has_ended.ensures) c.decide_or_wait.ensures

pub step_with-requires-clause-open : goal.step_with-requires-clause-open
step_with-requires-clause-open c =
    let s = shared_of c.args.kept.now in
    subst (λ k. IfSome (named c.args.owner.now k.attempts.entries) (λ tree. end_at tree ≡ None)) (sym c.in-Ok.ensures.others)
    (open-of (named c.args.owner.now s.attempts) (subst (λ b. IfSome (named c.args.owner.now s.attempts) (λ tree. b ≡ is_some (end_at tree))) c.if-has_ended.false c.has_ended.ensures))

pub decide_or_wait-requires-clause-marks : goal.decide_or_wait-requires-clause-marks
decide_or_wait-requires-clause-marks c = marked-beside (shared_of c.args.kept.now) c.args.owner.now c.requires.marks

pub step_with-requires-clause-marks : goal.step_with-requires-clause-marks
step_with-requires-clause-marks c =
    same-marks (shared_of c.args.kept.now) (shared_of c.room_for_child.new.kept) c.in-Ok.ensures.same (λ going. c.requires.marks) (ap is_going (ap (λ (s : Shared). s.end) c.in-Ok.ensures.same.rest ∙ c.requires.going))
