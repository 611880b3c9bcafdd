use Rattle.std.proofs.Common.{ap, refl, subst, sym}
use Rattle.std.specs.Option.{IsSome}
use Rattle.std.specs.Prelude.{IfSome}
use Rattle.attempt_steps.proofs.Children.{of-step}
use Rattle.attempt_commits.proofs.Committing.{at-attempt}
use Rattle.shared_world.specs.Seen.{done_by_root}
use Rattle.std.specs.Prelude.{length, ◌≡◌}
use Rattle.attempt_steps.proofs.Wanting.{done-no-more, taken, taken-beside, taken-came, taken-stands, taken-task}
use Rattle.world_steps.specs.Kept.{shared_of}
use Rattle.attempt_deciding.specs.TaskAt.{IsTaskIn}
use Rattle.attempt_steps.specs.Tasks.{IsNextIfForked}
use Rattle.task_fork_join.specs.Attempt.{Attempt}
use Rattle.value_core.specs.Named.{named}
use Rattle.shared_world.specs.Shared.{is_going}
use Rattle.attempt_steps.proofs.tasks.step_with.Goals as goal

pub after_step-requires-clause-stands : goal.after_step-requires-clause-stands
after_step-requires-clause-stands c =
    let old = shared_of c.args.kept.now in
    let mid = shared_of c.take_step.new.kept in
    let going = ap is_going c.requires.going in
    let t = taken old mid c.args.owner.now c.args.task.now c.args.moved c.args.halt c.requires.task c.in-Ok.went c.in-Ok.ensures.step (ap shared_of c.in-Ok.ensures.others) in
    taken-stands old mid c.requires.stands going c.args.owner.now c.args.task.now c.args.moved c.args.halt c.requires.task c.in-Ok.went t

pub after_step-requires-clause-at : goal.after_step-requires-clause-at
after_step-requires-clause-at c =
    let old = shared_of c.args.kept.now in
    let mid = shared_of c.take_step.new.kept in
    let going = ap is_going c.requires.going in
    let t = taken old mid c.args.owner.now c.args.task.now c.args.moved c.args.halt c.requires.task c.in-Ok.went c.in-Ok.ensures.step (ap shared_of c.in-Ok.ensures.others) in
    let is = taken-task old mid c.requires.stands going c.args.owner.now c.args.task.now c.args.moved c.args.halt c.requires.task c.in-Ok.went t in
    subst (λ o. IfSome o (IsTaskIn mid c.args.owner.now c.args.task.now)) (sym is.attempt) is

pub after_step-requires-clause-there : goal.after_step-requires-clause-there
after_step-requires-clause-there c =
    let old = shared_of c.args.kept.now in
    let mid = shared_of c.take_step.new.kept in
    let going = ap is_going c.requires.going in
    let t = taken old mid c.args.owner.now c.args.task.now c.args.moved c.args.halt c.requires.task c.in-Ok.went c.in-Ok.ensures.step (ap shared_of c.in-Ok.ensures.others) in
    let is = taken-task old mid c.requires.stands going c.args.owner.now c.args.task.now c.args.moved c.args.halt c.requires.task c.in-Ok.went t in
    subst IsSome (sym is.attempt) refl

pub returns-in-Ok : goal.returns-in-Ok
returns-in-Ok c =
    let old = shared_of c.args.kept.now in
    let mid = shared_of c.take_step.new.kept in
    let going = ap is_going c.requires.going in
    let t = taken old mid c.args.owner.now c.args.task.now c.args.moved c.args.halt c.requires.task c.in-Ok.went c.in-Ok.ensures.step (ap shared_of c.in-Ok.ensures.others) in
    taken-came old mid c.requires.stands going c.args.owner.now c.args.task.now c.args.moved c.args.halt c.requires.task c.in-Ok.went t c.requires.open c.args.before c.requires.done (shared_of c.after_step.new.kept) c.after_step.result c.after_step.ensures

pub after_step-requires-clause-child : goal.after_step-requires-clause-child
after_step-requires-clause-child c =
    let old = shared_of c.args.kept.now in
    let mid = shared_of c.take_step.new.kept in
    let is = c.requires.task in
    let t = taken old mid c.args.owner.now c.args.task.now c.args.moved c.args.halt is c.in-Ok.went c.in-Ok.ensures.step (ap shared_of c.in-Ok.ensures.others) in
    of-step old mid c.args.owner.now c.args.task.now c.args.moved c.args.halt is c.in-Ok.went t c.args.child
    (at-attempt (named c.args.owner.now old.attempts) (λ (a : Attempt). IsNextIfForked c.args.halt a c.args.task.now c.args.child) is.tree is.task_in.attempt c.requires.next)

pub after_step-requires-clause-marks : goal.after_step-requires-clause-marks
after_step-requires-clause-marks c =
    let old = shared_of c.args.kept.now in
    let mid = shared_of c.take_step.new.kept in
    let going = ap is_going c.requires.going in
    let t = taken old mid c.args.owner.now c.args.task.now c.args.moved c.args.halt c.requires.task c.in-Ok.went c.in-Ok.ensures.step (ap shared_of c.in-Ok.ensures.others) in
    taken-beside old mid c.requires.stands going c.args.owner.now c.args.task.now c.args.moved c.args.halt c.requires.task c.in-Ok.went t c.requires.marks c.requires.open

pub after_step-requires-clause-done : goal.after_step-requires-clause-done
after_step-requires-clause-done c =
    let old = shared_of c.args.kept.now in
    let mid = shared_of c.take_step.new.kept in
    let going = ap is_going c.requires.going in
    let is = c.requires.task in
    let t = taken old mid c.args.owner.now c.args.task.now c.args.moved c.args.halt is c.in-Ok.went c.in-Ok.ensures.step (ap shared_of c.in-Ok.ensures.others) in
    done-no-more old mid c.requires.stands going c.args.owner.now c.args.task.now c.args.moved c.args.halt is c.in-Ok.went t c.args.before
    (at-attempt (named c.args.owner.now old.attempts) (λ (a : Attempt). IsSome (named a.root a.tasks) → c.args.before ≡ length (done_by_root a)) is.tree is.task_in.attempt c.requires.done is.task_in.rooted)
