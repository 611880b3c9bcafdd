use Rattle.serial_model.proofs.runs.Stuck.{first-is-enabled}
use Rattle.serial_model.proofs.tasks.TaskKeeps.{transactions-keep}
use Rattle.serial_model.proofs.laws.none_is_stuck.Goals as goal

pub returns : goal.returns
returns c = first-is-enabled transactions-keep (record { program = c.args.program.now; limits = c.args.limits }) c.main-main.ensures.well_formed
