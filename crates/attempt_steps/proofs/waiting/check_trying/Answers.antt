use Rattle.std.proofs.Common.{◌∙◌, sym}
use Rattle.attempt_steps.proofs.Waits.{level-of, trying-so}
use Rattle.world_steps.specs.Kept.{shared_of}
use Rattle.attempt_steps.proofs.waiting.check_trying.Goals as goal

pub returns : goal.returns
returns c =
    let s = shared_of c.args.kept.now in
    trying-so s c.args.owner.now c.in_ok-check_waiting.ensures c.requires.there c.lent_are_ready.ensures (level-of s c.args.owner.now (sym c.if-runs_ahead.false ∙ c.runs_ahead.ensures))
