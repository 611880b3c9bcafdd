use Rattle.ahead_steps.proofs.Begun.{begun-ahead}
use Rattle.ahead_steps.proofs.trying.begin_ahead.Goals as goal
use Rattle.world_steps.specs.Kept.{shared_of}

pub returns : goal.returns
returns c = begun-ahead (shared_of c.args.kept.now) (shared_of c.begin_marked.new.self) c.args.name.now c.args.body c.args.values c.args.at c.in_ok-definite.definite c.begin_marked.result c.in_ok-definite.ensures c.begin_marked.ensures
