use Rattle.std.proofs.Common.{refl}
use Rattle.std.proofs.lemmas.Result.{on_ok_weaker}
use Rattle.serial_machine.proofs.States.{replied}
use Rattle.serial_machine.proofs.now.Now.reply.Goals as goal

pub returns : goal.returns
returns c = on_ok_weaker c.settle.result (λ changed. λ setup.
    replied setup c.args.name.now c.args.self.now (record c.args.self.now { units = c.settle.new.self }) c.args.made c.args.becomes c.args.value changed refl) c.settle.ensures
