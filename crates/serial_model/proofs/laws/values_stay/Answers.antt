use Rattle.serial_model.proofs.runs.FinishedValues.{values_stay}
use Rattle.serial_model.proofs.laws.values_stay.Goals as goal

pub returns : goal.returns
returns c = values_stay (record { program = c.args.program.now; limits = c.args.limits }) c.main-main.ensures.well_formed
