use Rattle.std.proofs.Common.{◌∙◌, sym}
use Rattle.serial_model.specs.Step.{queue_of}
use Rattle.actor_queues.proofs.Mails.{send_keeps}
use Rattle.actor_queues.proofs.queues.Queues.send.Goals as goal

pub invariant_of-self : goal.invariant_of-self
invariant_of-self c =
    let old = c.self.inside.mails.entries in
    send_keeps c.args.actor c.args.sender old c.send.new.mails.entries c.self.inside.waiting c.send.result (queue_of old c.args.actor c.args.sender) c.args.message c.self.invariant
    (sym (c.self.invariant c.args.actor) ∙ sym c.contains.ensures ∙ c.if-contains.true) c.send.ensures.sent c.send.ensures.same
