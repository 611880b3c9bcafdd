use Rattle.std.proofs.Common.{◌≡◌, [], Some, sym, ap, subst}
use Rattle.std.specs.Prelude.{MatchOption, slice_get}
use Rattle.std.specs.Option.{option_copied}
use Rattle.actor_mails.proofs.Held.{seen}
use Rattle.actor_mails.proofs.mails.Mails.front.Goals as goal

pub returns-in-Some : goal.returns-in-Some
returns-in-Some c =
    subst (λ items. MatchOption c.front.result (items ≡ []) (λ message. slice_get items 0 ≡ Some message.now))
    (sym (seen _ _ _ _ _ c.self.view_is c.self.invariant.rises c.find.ensures (ap option_copied c.in-Some.is))) c.front.ensures

pub returns-in-None : goal.returns-in-None
returns-in-None c = seen _ _ _ _ _ c.self.view_is c.self.invariant.rises c.find.ensures (ap option_copied c.in-None.is)
