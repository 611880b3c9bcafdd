use Rattle.serial_model.proofs.runs.LastTurns.{turns_are_last}
use Rattle.serial_model.proofs.laws.turns_are_last.Goals as goal

pub returns : goal.returns
returns c = turns_are_last (record { program = c.args.program.now; limits = c.args.limits }) c.main-main.ensures.well_formed
