use Rattle.serial_model.proofs.runs.Lengths.{entries_are_bounded}
use Rattle.serial_model.proofs.laws.entries_are_bounded.Goals as goal

-- src/laws.rt:25:1
pub returns : goal.returns
returns c = entries_are_bounded (record { program = c.args.program.now; limits = c.args.limits }) c.units-units.ensures.in_range
