use Rattle.actor_mails.proofs.Firsts.{still_same}
use Rattle.actor_mails.proofs.mails.Mails.reserve.Goals as goal

pub invariant_of-self : goal.invariant_of-self
invariant_of-self c = still_same _ _ _ c.self.invariant (c.reserve.ensures.rises c.self.invariant.rises) c.reserve.ensures.mail
