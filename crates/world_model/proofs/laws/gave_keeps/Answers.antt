use Rattle.world_model.proofs.Kept.{gave-keeps}
use Rattle.world_model.proofs.laws.gave_keeps.Goals as goal

pub returns : goal.returns
returns c = gave-keeps (record { program = c.args.program.now; limits = c.args.limits }) c.main-main.ensures.well_formed
