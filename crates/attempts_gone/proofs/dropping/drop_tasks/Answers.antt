use Rattle.std.proofs.Common.{◌≡◌, ◌∷◌, ap, subst, sym}
use Rattle.std.specs.Option.{option_copied}
use Rattle.std.specs.Prelude.{None, Some}
use Rattle.attempts_gone.specs.Dropping.{AreLeft, names_from}
use Rattle.attempts_gone.proofs.Gone.{all_gone, all_left, from_next, one_gone, shorter}
use Rattle.task_fork_join.specs.Attempt.{names_in}
use Rattle.task_fork_join.specs.Following.{names_after}
use Rattle.attempts_gone.proofs.dropping.drop_tasks.Goals as goal

pub loop-next-init : goal.loop-next-init
loop-next-init c =
    let tasks = c.args.tree.now.tasks in
    let next = option_copied c.first_task-next.result in
    record {
      left = all_left tasks c.args.units.now next (from_next None next tasks c.first_task-next.ensures.some c.first_task-next.ensures.none);
      places = λ other there. there;
    }

pub loop-next-preserved : goal.loop-next-preserved
loop-next-preserved c =
    let tasks = c.args.tree.now.tasks in
    let name = c.in-Some.name.now in
    let next = option_copied c.next_task-next.result in
    let left : names_from (option_copied c.loop-next.next) tasks ≡ name ∷ names_after (Some name) tasks = ap (λ o. names_from (option_copied o) tasks) c.in-Some.is in
    record {
      left = subst (λ ns. AreLeft (names_in tasks) ns c.args.units.now c.drop_task.new.units) (sym (from_next (Some name) next tasks c.next_task-next.ensures.some c.next_task-next.ensures.none))
          (one_gone (names_in tasks) (names_from (option_copied c.loop-next.next) tasks) (names_after (Some name) tasks) name c.args.units.now c.loop-next.units c.drop_task.new.units left c.loop-next.invariant.left c.drop_task.ensures.gone);
      places = λ other there. c.drop_task.ensures.places other (c.loop-next.invariant.places other there);
    }

pub loop-next-smaller : goal.loop-next-smaller
loop-next-smaller c =
    let tasks = c.args.tree.now.tasks in
    let name = c.in-Some.name.now in
    let next = option_copied c.next_task-next.result in
    shorter (names_from next tasks) (names_from (option_copied c.loop-next.next) tasks) (names_after (Some name) tasks) name (from_next (Some name) next tasks c.next_task-next.ensures.some c.next_task-next.ensures.none)
    (ap (λ o. names_from (option_copied o) tasks) c.in-Some.is)

pub returns-clause-gone : goal.returns-clause-gone
returns-clause-gone c =
    let tasks = c.args.tree.now.tasks in
    all_gone (names_in tasks) (names_from (option_copied c.loop-next.next) tasks) c.args.units.now c.loop-next.units (ap (λ o. names_from (option_copied o) tasks) c.in_default.is) c.loop-next.invariant.left
