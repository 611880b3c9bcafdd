use Rattle.std.proofs.lemmas.Result.{on_ok_weaker}
use Rattle.serial_machine.proofs.now.Now.send.Goals as goal

pub returns : goal.returns
returns c = on_ok_weaker c.reply.result (λ replied. λ setup before s unit at there. replied setup before _ unit (c.in_ok-deliver.ensures.comes setup before s at) there) c.reply.ensures
