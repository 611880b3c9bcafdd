use Rattle.std.proofs.Common.{◌∙◌, sym, ap, Some, None}
use Rattle.std.specs.Option.{option_copied}
use Rattle.std.proofs.lemmas.Result.{on_ok_weaker}
use Rattle.serial_model.specs.Ahead.{self_of}
use Rattle.serial_model.specs.Step as row
use Rattle.serial_machine.proofs.UnitRequests.{by_actor}
use Rattle.serial_machine.proofs.now.Now.own_actor.Goals as goal

pub returns-in_ok-actor-in-Some : goal.returns-in_ok-actor-in-Some
returns-in_ok-actor-in-Some c = on_ok_weaker c.reply.result (λ replied. λ setup.
    by_actor setup c.args.name.now c.args.self.now c.reply.new.self (λ s unit actor. row.gives s c.args.name.now unit c.args.at (self_of actor)) (Some c.in_ok-actor-in-Some.actor)
    (λ unit there. ap Some c.in_ok-actor-in-Some.ensures ∙ sym (ap option_copied c.in-Some.is) ∙ c.actor_of.ensures unit there) (replied setup)) c.reply.ensures

pub returns-in-None : goal.returns-in-None
returns-in-None c = on_ok_weaker c.fail.result (λ failed. λ setup.
    by_actor setup c.args.name.now c.args.self.now c.fail.new.self (λ s unit actor. row.gives s c.args.name.now unit c.args.at (self_of actor)) None
    (λ unit there. sym (ap option_copied c.in-None.is) ∙ c.actor_of.ensures unit there) (λ before s unit at there. failed setup before s at)) c.fail.ensures
