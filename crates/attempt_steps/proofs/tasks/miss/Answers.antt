use Rattle.std.proofs.Common.{◌∙◌, sym}
use Rattle.attempt_steps.proofs.Taking.{has-attempt, has-task, missed, missed-waits}
use Rattle.world_steps.specs.Kept.{shared_of}
use Rattle.attempt_steps.proofs.tasks.miss.Goals as goal

pub returns-in-Some : goal.returns-in-Some
returns-in-Some c =
    let s = shared_of c.args.kept.now in
    missed s (shared_of c.abort.new.kept) c.args.owner.now c.args.task.now c.args.name c.in-Some.number c.abort.result (has-task s c.args.owner.now c.args.task.now c.requires.at c.requires.there)
    (sym c.in-Some.is ∙ c.newest_number.ensures) c.abort.ensures

pub returns-in-None : goal.returns-in-None
returns-in-None c =
    missed-waits (shared_of c.args.kept.now) (shared_of c.wait_for_turn.new.kept) c.args.owner.now c.args.task.now c.args.name c.wait_for_turn.result (sym c.if-runs_ahead.true ∙ c.runs_ahead.ensures) (sym c.in-None.is ∙ c.newest_number.ensures)
    c.wait_for_turn.ensures

pub abort-requires-clause-attempt : goal.abort-requires-clause-attempt
abort-requires-clause-attempt c =
    let s = shared_of c.args.kept.now in
    has-attempt s c.args.owner.now c.args.task.now (has-task s c.args.owner.now c.args.task.now c.requires.at c.requires.there)
