use Rattle.std.proofs.Common.{◌∙◌, sym}
use Rattle.serial_model.specs.Step.{queue_of}
use Rattle.actor_queues.specs.Waiting.{waits}
use Rattle.actor_queues.proofs.Mails.{took_agree, took_held}
use Rattle.value_core.proofs.NameMarks.{just_still, just_without}
use Rattle.actor_queues.proofs.queues.Queues.take.Goals as goal

pub invariant_of-self : goal.invariant_of-self
invariant_of-self c =
    let old = c.self.inside.mails.entries in
    let new = c.take_first-taken.new.mails.entries in
    just_without waits c.args.actor.now old new c.self.inside.waiting c.remove.new.names c.self.invariant c.remove.ensures
    (took_agree c.args.actor.now c.args.sender.now old new (queue_of old c.args.actor.now c.args.sender.now) c.take_first-taken.result c.take_first-taken.ensures) (sym c.has_mail.ensures ∙ c.if-not-has_mail.true)

pub invariant_of-self-else-not-has_mail : goal.invariant_of-self-else-not-has_mail
invariant_of-self-else-not-has_mail c =
    let old = c.self.inside.mails.entries in
    let new = c.take_first-taken.new.mails.entries in
    just_still waits c.args.actor.now old new c.self.inside.waiting c.self.invariant
    (took_agree c.args.actor.now c.args.sender.now old new (queue_of old c.args.actor.now c.args.sender.now) c.take_first-taken.result c.take_first-taken.ensures)
    (took_held c.args.actor.now c.args.sender.now old new c.take_first-taken.result c.take_first-taken.ensures (sym c.has_mail.ensures ∙ c.if-not-has_mail.false))
