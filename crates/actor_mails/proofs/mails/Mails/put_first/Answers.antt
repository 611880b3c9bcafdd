use Rattle.std.proofs.Common.{sym, subst}
use Rattle.actor_mails.proofs.Firsts.{moved}
use Rattle.actor_mails.specs.Firsts.{IsBounded}
use Rattle.actor_mails.proofs.mails.Mails.put_first.Goals as goal

pub invariant_of-self : goal.invariant_of-self
invariant_of-self c =
    subst (λ start. IsBounded start c.put_first.new.boxes.entries) (sym c.move_bound.ensures)
    (moved c.self.inside.start c.args.to.now _ c.self.inside.boxes.entries c.put_first.new.boxes.entries c.self.invariant (c.put_first.ensures.rises c.self.invariant.rises) c.put_first.ensures.mail)
