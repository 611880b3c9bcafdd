use Rattle.std.proofs.Common.{◌∙◌, ap}
use Rattle.attempt_steps.proofs.Taking.{has-task, posted-task}
use Rattle.shared_world.specs.Shared.{Shared}
use Rattle.unit_table.specs.Board.{piece_at}
use Rattle.world_steps.specs.Kept.{shared_of}
use Rattle.attempt_steps.proofs.tasks.wait_for_task.Goals as goal

pub mark_task-requires-clause-there : goal.mark_task-requires-clause-there
mark_task-requires-clause-there c =
    let s = shared_of c.args.kept.now in
    posted-task s c.args.owner.now c.args.task.now c.args.before (shared_of c.told_and_sent.new.kept) (has-task s c.args.owner.now c.args.task.now c.requires.at c.requires.there) c.in-Ok.ensures.posted.posts
