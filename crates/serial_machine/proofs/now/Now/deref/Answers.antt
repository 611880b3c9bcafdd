use Rattle.std.proofs.Common.{◌∙◌, sym, ap}
use Rattle.std.specs.Option.{option_copied}
use Rattle.value_core.specs.Named.{named}
use Rattle.serial_machine.proofs.UnitRequests.{found_done}
use Rattle.serial_machine.proofs.now.Now.deref.Goals as goal

pub returns-in_ok-reply-in-Some : goal.returns-in_ok-reply-in-Some
returns-in_ok-reply-in-Some c = λ setup.
    found_done setup c.args.name.now c.args.self.now c.reply.new.self (λ s. named c.args.asked.now s.refs) c.in-Some.content.now c.in_ok-content-in-Some.content
    (λ before. sym c.find.ensures ∙ ap option_copied c.in-Some.is) c.in_ok-content-in-Some.ensures (c.in_ok-reply-in-Some.ensures setup)
