use Rattle.serial_model.proofs.runs.Stuck.{nothing-waits}
use Rattle.serial_model.proofs.tasks.TaskKeeps.{transactions-keep}
use Rattle.serial_model.proofs.laws.nothing_waits.Goals as goal

pub returns : goal.returns
returns c = nothing-waits transactions-keep (record { program = c.args.program.now; limits = c.args.limits }) c.main-main.ensures.well_formed
