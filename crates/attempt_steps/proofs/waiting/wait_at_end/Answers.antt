use Rattle.attempt_steps.proofs.Taking.{has-task, posted-task}
use Rattle.world_steps.specs.Kept.{shared_of}
use Rattle.attempt_steps.proofs.waiting.wait_at_end.Goals as goal

pub mark_task-requires-clause-there : goal.mark_task-requires-clause-there
mark_task-requires-clause-there c =
    let s = shared_of c.args.kept.now in
    posted-task s c.args.owner.now c.args.task.now c.args.before (shared_of c.post_sends.new.kept) (has-task s c.args.owner.now c.args.task.now c.requires.at c.requires.there) c.in_ok-post_sends.ensures.posted
