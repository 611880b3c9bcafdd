use Rattle.std.proofs.Common.{sym, subst, true, Bool}
use Rattle.std.proofs.lemmas.Result.{IfOk-weaker}
use Rattle.serial_model.specs.declared.halt.Halt.{Halt}
use Rattle.serial_model.specs.Step as row
use Rattle.serial_machine.specs.Now.{Tries}
use Rattle.serial_machine.proofs.Transactions.{done_so}
use Rattle.serial_machine.proofs.now.Now.follow.Goals as goal

pub returns-in-Value : goal.returns-in-Value
returns-in-Value c = done_so c.done.result c.end_unit.result _ (λ (done : Bool). Tries (record { program = c.args.program.now; limits = c.args.limits }) c.args.name.now c.args.self.now c.end_unit.new.self done (λ s unit. row.goes_on (record { program = c.args.program.now; limits = c.args.limits }) s c.args.name.now unit c.args.halt)) c.done.ensures.done c.done.ensures.did c.end_unit.ensures (λ does.
    subst (λ (h : Halt). Tries (record { program = c.args.program.now; limits = c.args.limits }) c.args.name.now c.args.self.now c.end_unit.new.self true (λ s unit. row.goes_on (record { program = c.args.program.now; limits = c.args.limits }) s c.args.name.now unit h)) (sym c.in-Value.is) (does (record { program = c.args.program.now; limits = c.args.limits })))

pub returns-in-Fault : goal.returns-in-Fault
returns-in-Fault c = done_so c.done-in-Fault.result c.fail.result _ (λ (done : Bool). Tries (record { program = c.args.program.now; limits = c.args.limits }) c.args.name.now c.args.self.now c.fail.new.self done (λ s unit. row.goes_on (record { program = c.args.program.now; limits = c.args.limits }) s c.args.name.now unit c.args.halt)) c.done-in-Fault.ensures.done c.done-in-Fault.ensures.did c.fail.ensures (λ does.
    subst (λ (h : Halt). Tries (record { program = c.args.program.now; limits = c.args.limits }) c.args.name.now c.args.self.now c.fail.new.self true (λ s unit. row.goes_on (record { program = c.args.program.now; limits = c.args.limits }) s c.args.name.now unit h)) (sym c.in-Fault.is) (λ before s unit at there. does (record { program = c.args.program.now; limits = c.args.limits }) before s at))

pub returns-in-Spent : goal.returns-in-Spent
returns-in-Spent c = done_so c.done-in-Spent.result c.spend.result _ (λ (done : Bool). Tries (record { program = c.args.program.now; limits = c.args.limits }) c.args.name.now c.args.self.now c.spend.new.self done (λ s unit. row.goes_on (record { program = c.args.program.now; limits = c.args.limits }) s c.args.name.now unit c.args.halt)) c.done-in-Spent.ensures.done c.done-in-Spent.ensures.did c.spend.ensures (λ does.
    subst (λ (h : Halt). Tries (record { program = c.args.program.now; limits = c.args.limits }) c.args.name.now c.args.self.now c.spend.new.self true (λ s unit. row.goes_on (record { program = c.args.program.now; limits = c.args.limits }) s c.args.name.now unit h)) (sym c.in-Spent.is) (λ before s unit at there. does (record { program = c.args.program.now; limits = c.args.limits }) before s at))

pub returns-in-Ask : goal.returns-in-Ask
returns-in-Ask c = IfOk-weaker c.serve.result _ _ (λ done tries.
    subst (λ (h : Halt). Tries (record { program = c.args.program.now; limits = c.args.limits }) c.args.name.now c.args.self.now c.serve.new.self done (λ s unit. row.goes_on (record { program = c.args.program.now; limits = c.args.limits }) s c.args.name.now unit h)) (sym c.in-Ask.is) (tries)) c.serve.ensures
