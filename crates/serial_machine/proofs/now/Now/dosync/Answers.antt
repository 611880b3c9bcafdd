use Rattle.std.proofs.Common.{◌∙◌, sym, ap, true, false}
use Rattle.serial_model.specs.Task as task
use Rattle.serial_units.specs.Task.{outcome_of}
use Rattle.serial_machine.proofs.Transactions.{after_it, escaped, committed}
use Rattle.serial_machine.proofs.now.Now.dosync.Goals as goal

pub returns-in_ok-fail-in-Value : goal.returns-in_ok-fail-in-Value
returns-in_ok-fail-in-Value c = escaped (record { program = c.args.program.now; limits = c.args.limits }) c.args.name.now c.args.self.now c.fail.new.self c.args.at c.args.body c.args.values
    c.in_ok-end.field-0 c.in-Value.value c.in_ok-end.ensures (ap outcome_of (c.in-Value.is)) (sym c.holds_future.ensures ∙ c.if-holds_future.true) (c.in_ok-fail-in-Value.ensures _)

pub returns-in_ok-commit-in-Value : goal.returns-in_ok-commit-in-Value
returns-in_ok-commit-in-Value c = committed (record { program = c.args.program.now; limits = c.args.limits }) c.args.name.now c.args.self.now c.commit.new.self c.args.at c.args.body c.args.values
    c.in_ok-end.field-0 c.in-Value.value c.in_ok-end.ensures (ap outcome_of (c.in-Value.is)) (sym c.holds_future.ensures ∙ c.if-holds_future.false) (c.in_ok-commit-in-Value.ensures _)

pub returns-in_ok-fail-in-Fault : goal.returns-in_ok-fail-in-Fault
returns-in_ok-fail-in-Fault c = after_it (record { program = c.args.program.now; limits = c.args.limits }) c.args.name.now c.args.self.now c.fail-in-Fault.new.self c.args.at c.args.body c.args.values
    c.in_ok-end.field-0 (task.Fault c.in-Fault.code c.in-Fault.place) true c.in_ok-end.ensures (ap outcome_of (c.in-Fault.is))
    (λ before s unit result here there log. c.in_ok-fail-in-Fault.ensures _ before s here)

pub returns-in_ok-spend-in-Spent : goal.returns-in_ok-spend-in-Spent
returns-in_ok-spend-in-Spent c = after_it (record { program = c.args.program.now; limits = c.args.limits }) c.args.name.now c.args.self.now c.spend.new.self c.args.at c.args.body c.args.values
    c.in_ok-end.field-0 task.Spent true c.in_ok-end.ensures (ap outcome_of (c.in-Spent.is))
    (λ before s unit result here there log. c.in_ok-spend-in-Spent.ensures _ before s here)

pub returns-in-Blocked : goal.returns-in-Blocked
returns-in-Blocked c = after_it (record { program = c.args.program.now; limits = c.args.limits }) c.args.name.now c.args.self.now c.args.self.now c.args.at c.args.body c.args.values
    c.in_ok-end.field-0 task.Blocked false c.in_ok-end.ensures (ap outcome_of (c.in-Blocked.is))
    (λ before s unit result here there log. here)
