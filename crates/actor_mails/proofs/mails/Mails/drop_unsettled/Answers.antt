use Rattle.std.proofs.Common.{◌∙◌, ap, true}
use Rattle.actor_mails.proofs.Firsts.{still}
use Rattle.actor_mailbox.specs.Messages.{without}
use Rattle.actor_mails.proofs.mails.Mails.drop_unsettled.Goals as goal

pub invariant_of-self : goal.invariant_of-self
invariant_of-self c = still _ _ _ c.self.invariant (c.drop_unsettled.ensures.rises c.self.invariant.rises) (λ q none. c.drop_unsettled.ensures.mail q ∙ ap (without (λ on. true)) none)
