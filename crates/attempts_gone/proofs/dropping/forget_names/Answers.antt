use Rattle.std.proofs.Common.{◌∙◌}
use Rattle.attempts_gone.proofs.Gone.{same_after}
use Rattle.attempts_gone.proofs.dropping.forget_names.Goals as goal

pub loop-name-preserved : goal.loop-name-preserved
loop-name-preserved c = record {
  pieces = λ n. c.forget.ensures.pieces n ∙ c.loop-name.invariant.pieces n;
  claims = same_after c.args.units.now c.loop-name.units c.forget.new.self c.loop-name.invariant.claims c.forget.ensures.claims;
}
