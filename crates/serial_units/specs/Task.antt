-- How a task of a transaction ends.
use Rattle.serial_model.specs.Task.{Outcome, Value, Fault, Spent, Blocked}
use Rattle.serial_units.specs.declared.task.TaskEnd.{TaskEnd}
use Rattle.serial_units.specs.declared.task.TaskEnd.TheVariants as end

-- what the end of a task means
abbrev pub outcome_of : TaskEnd → Outcome
outcome_of (end.Value v) = Value v
outcome_of (end.Fault failed at) = Fault failed at
outcome_of end.Spent = Spent
outcome_of end.Blocked = Blocked
