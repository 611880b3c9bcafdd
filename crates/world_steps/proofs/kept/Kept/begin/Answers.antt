use Rattle.world_steps.proofs.Trying.{begins-came}
use Rattle.world_steps.specs.Kept.{shared_of}
use Rattle.world_steps.proofs.kept.Kept.begin.Goals as goal

pub returns : goal.returns
returns c = begins-came (shared_of c.args.self.now) (shared_of c.begin_marked.new.self) c.args.name.now c.args.body c.args.values c.args.at c.begin_marked.result c.begin_marked.ensures
