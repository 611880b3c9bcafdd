use Rattle.run_end.proofs.Finished.{over-where-seen}
use Rattle.run_end.proofs.over.is_over.Goals as goal
use Rattle.world_steps.specs.Kept.{shared_of}

pub returns : goal.returns
returns c = over-where-seen (shared_of c.args.kept.now) c.end_by.result c.is_some.result c.is_some.ensures c.end_by.ensures
