use Rattle.std.proofs.Common.{refl}
use Rattle.serial_machine.proofs.SerialRuns.{opens, opens_empty}
use Rattle.serial_machine.proofs.now.Now.opening.Goals as goal

pub returns-clause-opening : goal.returns-clause-opening
returns-clause-opening c =
    opens (record { program = c.args.program.now; limits = c.args.limits })
    (record { refs = c.new.result; units = c.new-2.result; actors = c.new-3.result; queues = c.new-4.result; text = c.new-5.result; made = 0; end = _ })
    c.start.new.self c.in_ok-name.name c.main-body.result c.new-6.result
    c.new.ensures.empty c.new-2.ensures c.new-3.ensures.empty c.new-4.ensures c.new-5.ensures.items refl refl
    c.in_ok-name.ensures c.main-body.ensures.value c.new-6.ensures c.in_ok-start.ensures.comes

pub returns-clause-text : goal.returns-clause-text
returns-clause-text c = opens_empty (record { program = c.args.program.now; limits = c.args.limits }) c.start.new.self (returns-clause-opening c)
