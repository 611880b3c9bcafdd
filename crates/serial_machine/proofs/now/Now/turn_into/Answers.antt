use Rattle.std.proofs.Common.{◌∙◌, sym, ap, None}
use Rattle.std.specs.Option.{option_copied}
use Rattle.std.proofs.lemmas.Result.{on_ok_weaker}
use Rattle.value_core.specs.declared.value.Value.TheVariants as value
use Rattle.serial_model.specs.declared.answer.Answer.TheVariants as answer
use Rattle.serial_model.specs.Ahead.{of_turn}
use Rattle.serial_model.specs.Step as row
use Rattle.serial_machine.proofs.UnitRequests.{by_actor}
use Rattle.serial_machine.proofs.now.Now.turn_into.Goals as goal

pub returns-in-Some : goal.returns-in-Some
returns-in-Some c = on_ok_weaker c.reply.result (λ replied. λ setup.
    by_actor setup c.args.name.now c.args.self.now c.reply.new.self (λ s unit actor. row.gives s c.args.name.now (row.becoming unit c.args.behaviour c.args.state) c.args.at (of_turn actor (answer.Value value.Nil))) _
    (λ unit there. sym (ap option_copied c.in-Some.is) ∙ c.actor_of.ensures unit there) (replied setup)) c.reply.ensures

pub returns-in-None : goal.returns-in-None
returns-in-None c = on_ok_weaker c.fail.result (λ failed. λ setup.
    by_actor setup c.args.name.now c.args.self.now c.fail.new.self (λ s unit actor. row.gives s c.args.name.now (row.becoming unit c.args.behaviour c.args.state) c.args.at (of_turn actor (answer.Value value.Nil))) None
    (λ unit there. sym (ap option_copied c.in-None.is) ∙ c.actor_of.ensures unit there) (λ before s unit at there. failed setup before s at)) c.fail.ensures
