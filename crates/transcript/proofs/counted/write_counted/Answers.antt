use Rattle.std.proofs.Common.{◌∙◌, arith}
use Rattle.std.proofs.lemmas.Grind.{common_steps}
use Rattle.std.proofs.lemmas.List.{take_rest}
use Rattle.transcript.proofs.counted.write_counted.Goals as goal
use Rattle.world_io.proofs.TakenLemmas.{taken-more}

pub loop-at-preserved : goal.loop-at-preserved
loop-at-preserved g c = record {
  within = grind (arith, common_steps);
  taken = taken-more _ _ _ c.loop-at.at c.in-Ok.count c.args.bytes.now _ (take_rest c.args.bytes.now c.loop-at.at) c.loop-at.invariant.taken c.in-Ok.ensures.takes;
  faults = c.in-Ok.ensures.counts ∙ c.loop-at.invariant.faults;
}
