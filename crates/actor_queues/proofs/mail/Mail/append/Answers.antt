use Rattle.std.proofs.Common.{◌∙◌, [], sym, ap}
use Rattle.std.specs.Prelude.{unwrap_or}
use Rattle.value_core.specs.Named.{named}
use Rattle.value_core.specs.NameSet.{holds_at}
use Rattle.actor_queues.specs.Waiting.{has_first, mail_of}
use Rattle.actor_queues.proofs.Mails.{append_keeps}
use Rattle.actor_queues.proofs.mail.Mail.append.Goals as goal

pub invariant_of-self : goal.invariant_of-self
invariant_of-self c =
    let old = mail_of c.self.inside.queues in
    append_keeps c.self.inside.waiting c.append.result c.args.sender old (mail_of c.append.new.queues) (unwrap_or (named c.args.sender old) []) c.args.message c.self.invariant
    (ap (λ mail. holds_at has_first (named c.args.sender mail)) c.self.view_is ∙ sym c.has_message_of.ensures ∙ c.if-has_message_of.true) c.append.ensures.appended c.append.ensures.same
