use Rattle.std.specs.Option.{option_copied}
use Rattle.std.proofs.lemmas.Result.{IfOk-weaker}
use Rattle.serial_machine.proofs.Transactions.{both_ok, around_same, came_so}
use Rattle.serial_machine.proofs.now.Now.transacted.Goals as goal

pub returns : goal.returns
returns c = IfOk-weaker c.transact.result _ _ (λ done is before unit there.
    came_so (record { program = c.args.program.now; limits = c.args.limits }) c.args.name.now c.args.body c.args.values done _ _ c.in_ok-made.made _
    (around_same (record { program = c.args.program.now; limits = c.args.limits }) c.args.self.now before unit c.fuel.result (option_copied c.actor_of.result) c.fuel.ensures (c.actor_of.ensures unit there))
    (c.in_ok-made.ensures.value unit there) is)
    (both_ok c.transact.result _ _ c.transact.ensures.end c.transact.ensures.log)
