use Rattle.std.proofs.Common.{◌∙◌, length, ap}
use Rattle.actor_mailbox.proofs.Counted.{counted-unsettled}
use Rattle.actor_mailbox.specs.Unsettled.{unsettled_of}
use Rattle.actor_mailbox.proofs.mailbox.Mailbox.unsettled_of.Goals as goal

pub returns : goal.returns
returns c =
    c.count_unsettled.ensures ∙ counted-unsettled c.args.sender.now c.self.inside.messages.items
    ∙ ap (λ mail. length (unsettled_of c.args.sender.now mail.items)) c.self.view_is
