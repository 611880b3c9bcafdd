use Rattle.std.proofs.Common.{◌≡◌, [], ◌∷◌, subst}
use Rattle.std.specs.Prelude.{MatchOption}
use Rattle.actor_mails.specs.Mails.{held, mail_at, Boxes, SameMailBut}
use Rattle.actor_mails.proofs.Firsts.{still_taken}
use Rattle.actor_mails.proofs.mails.Mails.take.Goals as goal

pub returns-clause-taken : goal.returns-clause-taken
returns-clause-taken c =
    let actor = c.args.actor.now in
    let new = c.take.new.boxes.entries in
    subst (λ (old : Boxes). MatchOption c.take.result ((mail_at (held old) actor ≡ []) × (held new ≡ held old)) (λ message. (mail_at (held old) actor ≡ message ∷ mail_at (held new) actor) × SameMailBut actor (held old) (held new))) c.self.view_is c.take.ensures.taken

pub invariant_of-self : goal.invariant_of-self
invariant_of-self c = still_taken _ c.args.actor.now _ _ c.take.result c.self.invariant (c.take.ensures.rises c.self.invariant.rises) c.take.ensures.taken
