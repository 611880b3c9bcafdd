use Rattle.std.proofs.Common.{◌≡◌, ◌∷◌, ap, subst, sym}
use Rattle.std.specs.Option.{option_copied}
use Rattle.std.specs.Prelude.{None, Some}
use Rattle.ahead_settling.proofs.waking.wake_tasks.Goals as goal
use Rattle.ahead_settling.proofs.Wakes.{all-left, claims-then, from-next, none-left, one-woken, shorter}
use Rattle.ahead_settling.specs.Leaving.{AreLeft}
use Rattle.ahead_settling.specs.Waking.{names_from}
use Rattle.task_fork_join.specs.Attempt.{names_in}
use Rattle.task_fork_join.specs.Following.{names_after}
use Rattle.world_steps.proofs.Settling.{same-claims}

pub loop-next-init : goal.loop-next-init
loop-next-init c =
    let tasks = c.args.tree.now.tasks in
    let next = option_copied c.first_task-next.result in
    record {
      left = all-left c.args.turn.now tasks c.args.units.now next (from-next None next tasks c.first_task-next.ensures.some c.first_task-next.ensures.none);
      claims = same-claims c.args.units.now;
      places = λ other there. there;
    }

pub loop-next-preserved : goal.loop-next-preserved
loop-next-preserved c =
    let tasks = c.args.tree.now.tasks in
    let task = c.in-Some.task.now in
    let next = option_copied c.next_task-next.result in
    let left : names_from (option_copied c.loop-next.next) tasks ≡ task ∷ names_after (Some task) tasks = ap (λ o. names_from (option_copied o) tasks) c.in-Some.is in
    record {
      left = subst (λ ns. AreLeft c.args.turn.now (names_in tasks) ns c.args.units.now c.wake.new.units) (sym (from-next (Some task) next tasks c.next_task-next.ensures.some c.next_task-next.ensures.none))
          (one-woken c.args.turn.now (names_in tasks) (names_from (option_copied c.loop-next.next) tasks) (names_after (Some task) tasks) task c.args.units.now c.loop-next.units c.wake.new.units left c.loop-next.invariant.left c.wake.ensures.woken);
      claims = claims-then c.args.units.now c.loop-next.units c.wake.new.units c.loop-next.invariant.claims c.wake.ensures.claims;
      places = λ other there. c.wake.ensures.places other (c.loop-next.invariant.places other there);
    }

pub loop-next-smaller : goal.loop-next-smaller
loop-next-smaller c =
    let tasks = c.args.tree.now.tasks in
    let task = c.in-Some.task.now in
    let next = option_copied c.next_task-next.result in
    shorter (names_from next tasks) (names_from (option_copied c.loop-next.next) tasks) (names_after (Some task) tasks) task (from-next (Some task) next tasks c.next_task-next.ensures.some c.next_task-next.ensures.none)
    (ap (λ o. names_from (option_copied o) tasks) c.in-Some.is)

pub returns-clause-woken : goal.returns-clause-woken
returns-clause-woken c =
    let tasks = c.args.tree.now.tasks in
    none-left c.args.turn.now tasks c.args.units.now c.loop-next.units (names_from (option_copied c.loop-next.next) tasks) (ap (λ o. names_from (option_copied o) tasks) c.in_default.is) c.loop-next.invariant.left
