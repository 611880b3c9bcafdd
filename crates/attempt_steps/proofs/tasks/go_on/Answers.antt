use Rattle.attempt_steps.proofs.Taking.{has-task, posted-or-same}
use Rattle.world_steps.specs.Kept.{shared_of}
use Rattle.attempt_steps.proofs.tasks.go_on.Goals as goal

pub mark_task-requires-clause-there : goal.mark_task-requires-clause-there
mark_task-requires-clause-there c =
    let s = shared_of c.args.kept.now in
    posted-or-same c.post_sends-posted.result s c.args.owner.now c.args.task.now c.args.before (shared_of c.post_sends-posted.new.kept) (has-task s c.args.owner.now c.args.task.now c.requires.at c.requires.there) c.post_sends-posted.ensures.posted
    c.post_sends-posted.ensures.same
