use Rattle.std.proofs.Common.{ap, refl, reverse, subst}
use Rattle.attempt_undoing.proofs.Goes.{tasks-end, tasks-go, tasks-still}
use Rattle.attempt_undoing.proofs.SendsGone.{right-marked}
use Rattle.attempt_undoing.proofs.Steps.{done-of, tasks-marked}
use Rattle.attempt_undoing.proofs.dropping.drop_tree.Goals as goal
use Rattle.attempt_undoing.specs.Hanging.{effect_receivers, sends_on}
use Rattle.attempt_undoing.specs.Sends.{SendsGone}
use Rattle.shared_world.specs.Shared.{Shared}
use Rattle.task_fork_join.specs.Attempt.{names_in}
use Rattle.value_core.specs.Named.{named}
use Rattle.world_steps.specs.Kept.{shared_of}

pub returns-clause-gone : goal.returns-clause-gone
returns-clause-gone c =
    let tree = c.args.tree in
    let mid : Shared = shared_of c.drop_done.new.kept in
    let after = c.forget_tasks.new.units in
    let tasks = tasks-still (names_in tree.tasks) mid.board c.drop_tasks.new.units after c.drop_tasks.ensures.gone c.forget_tasks.ensures.pieces c.forget_tasks.ensures.claims in
    record {
      effects = c.effects.result.now;
      done = done-of (named tree.root tree.tasks) c.root.result.now c.effects.result.now c.effects.ensures c.root.ensures;
      mid = mid;
      sends = subst (λ n. SendsGone (sends_on n (effect_receivers (reverse c.effects.result.now))) (shared_of c.args.kept.now) mid) c.root_name.ensures c.drop_done.ensures.gone;
      mid_is = ap shared_of c.drop_done.ensures.others;
      pieces = tasks-go tree mid.board after tasks;
      claims = tasks-end tree mid.board after tasks;
      new_is = refl;
    }

pub returns-clause-marks : goal.returns-clause-marks
returns-clause-marks c =
    let tree = c.args.tree in
    let mid : Shared = shared_of c.drop_done.new.kept in
    let after = c.forget_tasks.new.units in
    let tasks = tasks-still (names_in tree.tasks) mid.board c.drop_tasks.new.units after c.drop_tasks.ensures.gone c.forget_tasks.ensures.pieces c.forget_tasks.ensures.claims in
    tasks-marked tree mid (record mid { board = after }) (tasks-go tree mid.board after tasks) refl refl (right-marked (shared_of c.args.kept.now) mid c.drop_done.ensures.gone.pieces)
