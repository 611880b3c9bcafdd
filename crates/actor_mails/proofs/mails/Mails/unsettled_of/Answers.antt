use Rattle.std.proofs.Common.{◌∙◌, length, sym, ap}
use Rattle.std.specs.Option.{option_copied}
use Rattle.actor_mailbox.specs.Unsettled.{unsettled_of}
use Rattle.actor_mails.proofs.Held.{seen}
use Rattle.actor_mails.proofs.mails.Mails.unsettled_of.Goals as goal

pub returns-in-Some : goal.returns-in-Some
returns-in-Some c =
    c.unsettled_of.ensures ∙ ap (λ ms. length (unsettled_of c.args.sender.now ms)) (sym (seen _ _ _ _ _ c.self.view_is c.self.invariant.rises c.find.ensures (ap option_copied c.in-Some.is)))

pub returns-in-None : goal.returns-in-None
returns-in-None c = sym (ap (λ ms. length (unsettled_of c.args.sender.now ms)) (seen _ _ _ _ _ c.self.view_is c.self.invariant.rises c.find.ensures (ap option_copied c.in-None.is)))
