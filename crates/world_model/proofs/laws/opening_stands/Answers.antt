use Rattle.world_model.proofs.Opens.{opens}
use Rattle.world_model.proofs.laws.opening_stands.Goals as goal

pub returns : goal.returns
returns c = opens (record { program = c.args.program.now; limits = c.args.limits })
