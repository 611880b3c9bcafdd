use Rattle.std.proofs.Common.{◌++◌, subst, List, ℕ}
use Rattle.std.proofs.lemmas.Result.{on_ok_weaker}
use Rattle.value_core.specs.declared.value.Value.TheVariants as value
use Rattle.serial_model.specs.Step as row
use Rattle.serial_machine.specs.Now.{IsNow}
use Rattle.serial_machine.proofs.now.Now.print.Goals as goal

pub returns : goal.returns
returns c = on_ok_weaker c.reply.result (λ replied. λ setup before s unit at there.
    subst (λ (bytes : List ℕ). IsNow setup before c.reply.new.self (row.gets (record s { bytes = s.bytes ++ bytes }) c.args.name.now unit value.Nil)) c.items.ensures
    (replied setup before _ unit (c.in_ok-print_bytes.ensures.comes setup before s at) there)) c.reply.ensures
