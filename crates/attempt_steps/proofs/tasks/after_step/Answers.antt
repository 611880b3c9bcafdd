use Rattle.std.proofs.Common.{◌≡◌, inl, inr, ap, subst}
use Rattle.std.specs.Prelude.{IfSome, is_some}
use Rattle.attempt_steps.proofs.Taking.{after-ended, after-finishes, after-forks, after-goes, after-misses, after-waits, forked-so, has-child, has-task}
use Rattle.attempt_steps.specs.Tasks.{HasForkedTask}
use Rattle.world_steps.specs.Kept.{shared_of}
use Rattle.task_fork_join.specs.Attempt.{end_at}
use Rattle.task_fork_join.specs.Stepping.{is_missing}
use Rattle.value_core.specs.Named.{named}
use Rattle.attempt_steps.proofs.tasks.after_step.Goals as goal

pub decide_or_wait-requires-clause-marks : goal.decide_or_wait-requires-clause-marks
decide_or_wait-requires-clause-marks c =
    let s = shared_of c.args.kept.now in
    c.requires.marks (inr (subst (λ b. IfSome (named c.args.owner.now s.attempts) (λ tree. b ≡ is_some (end_at tree))) c.if-has_ended.true c.has_ended.ensures))

pub miss-requires-clause-marks : goal.miss-requires-clause-marks
miss-requires-clause-marks c = c.requires.marks (inl (ap is_missing c.in-NotInSnapshot.is))

pub returns-then-has_ended : goal.returns-then-has_ended
returns-then-has_ended c =
    let s = shared_of c.args.kept.now in
    after-ended s (shared_of c.decide_or_wait.new.kept) c.args.owner.now c.args.task.now c.args.before c.args.went c.decide_or_wait.result (has-task s c.args.owner.now c.args.task.now c.requires.at c.requires.there)
    (subst (λ b. IfSome (named c.args.owner.now s.attempts) (λ tree. b ≡ is_some (end_at tree))) c.if-has_ended.true c.has_ended.ensures) c.decide_or_wait.ensures

pub returns-in-Now : goal.returns-in-Now
returns-in-Now c =
    let s = shared_of c.args.kept.now in
    after-goes s c.args.owner.now c.args.task.now c.args.before c.args.went (has-task s c.args.owner.now c.args.task.now c.requires.at c.requires.there)
    (subst (λ b. IfSome (named c.args.owner.now s.attempts) (λ tree. b ≡ is_some (end_at tree))) c.if-has_ended.false c.has_ended.ensures) (shared_of c.go_on.new.kept) c.go_on.result c.in-Now.is c.go_on.ensures

pub returns-in-WaitJoin : goal.returns-in-WaitJoin
returns-in-WaitJoin c =
    let s = shared_of c.args.kept.now in
    after-waits s c.args.owner.now c.args.task.now c.args.before c.args.went (has-task s c.args.owner.now c.args.task.now c.requires.at c.requires.there)
    (subst (λ b. IfSome (named c.args.owner.now s.attempts) (λ tree. b ≡ is_some (end_at tree))) c.if-has_ended.false c.has_ended.ensures) (shared_of c.wait_for_task.new.kept) c.in-WaitJoin.future c.wait_for_task.result c.in-WaitJoin.is
    c.wait_for_task.ensures

pub returns-in-NotInSnapshot : goal.returns-in-NotInSnapshot
returns-in-NotInSnapshot c =
    let s = shared_of c.args.kept.now in
    after-misses s c.args.owner.now c.args.task.now c.args.before c.args.went (has-task s c.args.owner.now c.args.task.now c.requires.at c.requires.there)
    (subst (λ b. IfSome (named c.args.owner.now s.attempts) (λ tree. b ≡ is_some (end_at tree))) c.if-has_ended.false c.has_ended.ensures) (shared_of c.miss.new.kept) c.in-NotInSnapshot.name c.miss.result c.requires.done c.in-NotInSnapshot.is
    c.miss.ensures

pub returns-in-Forked : goal.returns-in-Forked
returns-in-Forked c =
    let s = shared_of c.args.kept.now in
    let child = has-child c.args.kept.now c.args.owner.now c.in-Forked.field-0 c.args.went c.args.child c.in-Forked.is c.requires.child c.requires.room in
    after-forks s c.args.owner.now c.args.task.now c.args.before c.args.went (has-task s c.args.owner.now c.args.task.now c.requires.at c.requires.there)
    (subst (λ b. IfSome (named c.args.owner.now s.attempts) (λ tree. b ≡ is_some (end_at tree))) c.if-has_ended.false c.has_ended.ensures) (shared_of c.add_forked.new.kept) c.in-Forked.field-0 c.add_forked.result c.requires.done c.in-Forked.is
    (forked-so s (shared_of c.add_forked.new.kept) c.args.owner.now c.args.task.now c.in-Forked.field-0 child.is c.add_forked.result child.called child.room.owner_is
    (subst (λ o. IfSome o (λ k. HasForkedTask s k.owner c.args.task.now k.name (shared_of c.add_forked.new.kept) c.add_forked.result)) child.there c.add_forked.ensures))

pub returns-in-Finished : goal.returns-in-Finished
returns-in-Finished c =
    let s = shared_of c.args.kept.now in
    after-finishes s c.args.owner.now c.args.task.now c.args.before c.args.went (has-task s c.args.owner.now c.args.task.now c.requires.at c.requires.there)
    (subst (λ b. IfSome (named c.args.owner.now s.attempts) (λ tree. b ≡ is_some (end_at tree))) c.if-has_ended.false c.has_ended.ensures) (shared_of c.mark_task.new.kept) c.requires.done c.in-Finished.is c.mark_task.ensures
