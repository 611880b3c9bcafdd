use Rattle.std.proofs.Common.{ap}
use Rattle.actor_mails.proofs.Firsts.{still_mailed}
use Rattle.actor_mailbox.specs.Messages.{settle_first}
use Rattle.value_core.specs.Named.{same_name}
use Rattle.actor_mails.proofs.mails.Mails.settle_first.Goals as goal

pub invariant_of-self : goal.invariant_of-self
invariant_of-self c = still_mailed _ c.args.to.now _ _ _ c.self.invariant (c.settle_in.ensures.rises c.self.invariant.rises) c.settle_in.ensures.mail (ap (settle_first (same_name c.args.on.now)))
