use Rattle.serial_model.proofs.runs.Begun.{units_are_begun}
use Rattle.serial_model.proofs.laws.units_are_begun.Goals as goal

-- src/laws.rt:33:1
pub returns : goal.returns
returns c = units_are_begun (record { program = c.args.program.now; limits = c.args.limits })
