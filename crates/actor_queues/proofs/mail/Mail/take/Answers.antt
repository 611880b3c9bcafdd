use Rattle.std.proofs.Common.{◌∙◌, [], sym}
use Rattle.std.specs.Prelude.{unwrap_or}
use Rattle.value_core.specs.Named.{named}
use Rattle.actor_queues.specs.Waiting.{has_first, mail_of}
use Rattle.actor_queues.proofs.Mails.{taken_agree, taken_held}
use Rattle.value_core.proofs.NameMarks.{just_still, just_without}
use Rattle.actor_queues.proofs.mail.Mail.take.Goals as goal

pub invariant_of-self : goal.invariant_of-self
invariant_of-self c =
    let old = mail_of c.self.inside.queues in
    let new = mail_of c.take_from-taken.new.queues in
    just_without has_first c.args.sender.now old new c.self.inside.waiting c.remove.new.names c.self.invariant c.remove.ensures
    (taken_agree c.args.sender.now old new (unwrap_or (named c.args.sender.now old) []) c.take_from-taken.result c.take_from-taken.ensures) (sym c.has_message.ensures ∙ c.if-not-has_message.true)

pub invariant_of-self-else-not-has_message : goal.invariant_of-self-else-not-has_message
invariant_of-self-else-not-has_message c =
    let old = mail_of c.self.inside.queues in
    let new = mail_of c.take_from-taken.new.queues in
    just_still has_first c.args.sender.now old new c.self.inside.waiting c.self.invariant
    (taken_agree c.args.sender.now old new (unwrap_or (named c.args.sender.now old) []) c.take_from-taken.result c.take_from-taken.ensures)
    (taken_held c.args.sender.now old new c.take_from-taken.result c.take_from-taken.ensures (sym c.has_message.ensures ∙ c.if-not-has_message.false))
