use Rattle.std.proofs.Common.{sym, subst}
use Rattle.std.proofs.lemmas.Result.{IfOk-weaker}
use Rattle.serial_model.specs.Step.{step}
use Rattle.serial_machine.specs.Now.{IsStepped}
use Rattle.serial_model.specs.State.{Setup}
use Rattle.serial_machine.proofs.Standing.{step_run, step_take}
use Rattle.serial_machine.proofs.serial.enact.Goals as goal

pub returns-in-Run : goal.returns-in-Run
returns-in-Run c =
    let setup : Setup = record { program = c.args.program.now; limits = c.args.limits } in
    IfOk-weaker c.run.result _ _ (λ done is before s at going.
    subst (λ entry. IsStepped setup before c.run.new.self s (step setup s entry) done) (sym c.in-Run.is)
    (subst (λ next. IsStepped setup before c.run.new.self s next done) (sym (step_run setup s c.in-Run.name going)) (is before s at))) c.run.ensures

pub returns-in-Take : goal.returns-in-Take
returns-in-Take c =
    let setup : Setup = record { program = c.args.program.now; limits = c.args.limits } in
    IfOk-weaker c.take.result _ _ (λ done is before s at going.
    subst (λ entry. IsStepped setup before c.take.new.self s (step setup s entry) done) (sym c.in-Take.is)
    (subst (λ next. IsStepped setup before c.take.new.self s next done) (sym (step_take setup s c.in-Take.actor c.in-Take.sender going)) (is before s at))) c.take.ensures
