use Rattle.std.proofs.Common.{◌∙◌, sym, subst}
use Rattle.eval_step.specs.Evaluation.{IsOf}
use Rattle.eval_step.proofs.Machines.{starts}
use Rattle.eval_step.proofs.machine.Machine.start.Goals as goal

pub returns-clause-stands : goal.returns-clause-stands
returns-clause-stands c table there =
    let frame = c.in_ok-frame.ensures ∙ sym c.of.ensures in
    subst (IsOf table) (sym c.in_ok-machine.ensures)
    (starts table c.args.body c.of.result c.in_ok-frame.frame c.args.in_transaction c.args.fuel c.new-2.result c.new.result there frame c.new-2.ensures c.new.ensures)
