use Rattle.std.proofs.Common.{◌∙◌, ap}
use Rattle.std.proofs.lemmas.Result.{IfOk-weaker}
use Rattle.serial_units.specs.Tasks.{around_of}
use Rattle.serial_units.proofs.TaskTurns.{root_is_task}
use Rattle.serial_units.proofs.transaction.transact.Goals as goal

pub returns-clause-end : goal.returns-clause-end
returns-clause-end c = IfOk-weaker c.root-done.result _ _ (λ done is.
    is ∙ ap (λ r. r.outcome) (root_is_task (around_of c.args.around.now) c.in_ok-machine.machine c.args.name c.args.body c.args.values
    c.in_ok-machine.ensures.body c.in_ok-machine.ensures.values c.in_ok-machine.ensures.answers)) c.root-done.ensures.end

pub returns-clause-log : goal.returns-clause-log
returns-clause-log c = IfOk-weaker c.root-done.result _ _ (λ done is.
    is ∙ ap (λ r. r.log) (root_is_task (around_of c.args.around.now) c.in_ok-machine.machine c.args.name c.args.body c.args.values
    c.in_ok-machine.ensures.body c.in_ok-machine.ensures.values c.in_ok-machine.ensures.answers)) c.root-done.ensures.log
