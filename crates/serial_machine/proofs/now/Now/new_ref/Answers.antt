use Rattle.std.proofs.Common.{refl}
use Rattle.std.proofs.lemmas.Result.{on_ok_weaker}
use Rattle.value_core.specs.declared.value.Value.TheVariants as value
use Rattle.value_core.specs.Named.{with_named}
use Rattle.serial_machine.proofs.UnitRequests.{makes}
use Rattle.serial_machine.proofs.now.Now.new_ref.Goals as goal

pub returns : goal.returns
returns c = on_ok_weaker c.reply.result (λ replied. λ setup.
    makes setup c.args.name.now c.args.self.now c.put_ref.new.self c.reply.new.self (λ n s. record s { refs = with_named s.refs n c.args.content }) (λ n. value.Ref n) c.in_ok-copy.field-0 c.in_ok-made.made
    (c.in_ok-put_ref.ensures.comes setup) (replied setup) (λ n s apart. refl) c.in_ok-copy.ensures c.in_ok-made.ensures.other c.in_ok-made.ensures.value) c.reply.ensures
