use Rattle.std.proofs.Common.{◌∙◌, sym, ap}
use Rattle.std.specs.Option.{option_copied}
use Rattle.serial_model.specs.Step as row
use Rattle.serial_machine.proofs.UnitRequests.{found_done}
use Rattle.serial_machine.proofs.now.Now.join.Goals as goal

pub returns-in_ok-reply-in-Some : goal.returns-in_ok-reply-in-Some
returns-in_ok-reply-in-Some c = λ setup.
    found_done setup c.args.name.now c.args.self.now c.reply.new.self (λ s. row.value_of s c.args.future.now) c.in-Some.found.now c.in_ok-found-in-Some.found
    (λ before. sym c.value_of.ensures ∙ ap option_copied c.in-Some.is) c.in_ok-found-in-Some.ensures (c.in_ok-reply-in-Some.ensures setup)
