use Rattle.actor_mails.proofs.Firsts.{sorted_none, still_but}
use Rattle.actor_mails.proofs.mails.Mails.sort.Goals as goal

pub invariant_of-self : goal.invariant_of-self
invariant_of-self c = still_but _ c.args.actor.now _ _ c.self.invariant (c.sort.ensures.rises c.self.invariant.rises) (sorted_none _ _ c.sort.ensures.mail) c.sort.ensures.others
