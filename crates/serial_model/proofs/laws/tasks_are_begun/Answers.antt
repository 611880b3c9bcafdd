use Rattle.serial_model.proofs.runs.Begun.{tasks_are_begun}
use Rattle.serial_model.proofs.laws.tasks_are_begun.Goals as goal

pub returns : goal.returns
returns c = tasks_are_begun (record { program = c.args.program.now; limits = c.args.limits })
