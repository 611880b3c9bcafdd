use Rattle.std.proofs.Common.{◌≡◌, suc, ◌-◌, sym, subst, arith}
use Rattle.std.proofs.lemmas.Result.{IfOk-weaker}
use Rattle.eval_frames.specs.Control.{Control, standing}
use Rattle.eval_step.specs.Steps.{EntersWithFuel}
use Rattle.eval_step.proofs.Walks.{enters_with_fuel, enters_spent}
use Rattle.eval_step.proofs.walk.Walk.enter.Goals as goal

pub returns-then-self-eq0-clause-entered : goal.returns-then-self-eq0-clause-entered
returns-then-self-eq0-clause-entered c =
    let old = c.args.self.now in
    let registers = c.spend.new.self in
    let P : Control → Type 0 = EntersWithFuel c.args.program.now c.args.inside c.args.id old (record { at = old.at; registers = registers; context = old.context; left = old.left }) in
    subst P (sym c.spend.ensures) (enters_spent c.args.program.now c.args.inside c.args.id old registers c.if-self-eq0.true c.requires.items)

pub returns-clause-entered : goal.returns-clause-entered
returns-clause-entered c =
    let old = c.args.self.now in
    let registers = c.enter.new.registers in
    let one_less : old.left ≡ suc (old.left - 1) = omega arith in
    IfOk-weaker c.enter.result _ _
    (λ next. enters_with_fuel c.args.program.now c.args.inside c.args.id old c.enter.new.self (old.left - 1) old.at registers (standing next registers) one_less)
    c.enter.ensures
