use Rattle.std.proofs.Common.{◌∙◌, ap}
use Rattle.std.proofs.lemmas.Result.{IfOk-weaker}
use Rattle.serial_model.specs.Eval.{next}
use Rattle.serial_units.proofs.TaskTurns.{there_at}
use Rattle.serial_units.proofs.tasks.go_on.Goals as goal

pub returns-clause-there : goal.returns-clause-there
returns-clause-there c =
    let machine = c.args.machine.now in
    let table = c.args.around.now.program.now in
    IfOk-weaker c.run_to_ask.result _ _ (λ halt is. there_at table c.main-main.ensures.well_formed machine.body machine.values machine.answers machine.fuel halt
    (is ∙ ap (λ inside. next table machine.body machine.values inside machine.answers machine.fuel) c.requires.inside)) c.run_to_ask.ensures.halt
