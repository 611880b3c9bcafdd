use Rattle.std.proofs.Common.{◌∙◌, sym}
use Rattle.attempt_steps.proofs.Taking.{decided-after, decided-at, has-task}
use Rattle.world_steps.specs.Kept.{shared_of}
use Rattle.attempt_steps.proofs.tasks.decide_at.Goals as goal

pub returns-then-runs_ahead : goal.returns-then-runs_ahead
returns-then-runs_ahead c =
    decided-after (shared_of c.args.kept.now) (shared_of c.wait_at_end.new.kept) c.args.owner.now c.args.task.now c.args.before c.wait_at_end.result (has-task (shared_of c.args.kept.now) c.args.owner.now c.args.task.now c.requires.at c.requires.there)
    (sym c.if-runs_ahead.true ∙ c.runs_ahead.ensures) c.wait_at_end.ensures

pub returns : goal.returns
returns c =
    let s = shared_of c.args.kept.now in
    decided-at s (shared_of c.decide.new.kept) c.args.owner.now c.args.task.now c.args.before c.decide.result c.in_ok-check_trying.ensures (has-task s c.args.owner.now c.args.task.now c.requires.at c.requires.there) c.decide.ensures
