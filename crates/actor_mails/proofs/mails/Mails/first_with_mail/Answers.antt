use Rattle.std.proofs.Common.{sym, subst}
use Rattle.std.specs.Prelude.{MatchOption}
use Rattle.actor_mails.proofs.Firsts.{bounded_by}
use Rattle.actor_mails.specs.Firsts.{IsFirstWithMail}
use Rattle.actor_mails.specs.Mails.{held, NoMail}
use Rattle.actor_mails.proofs.mails.Mails.first_with_mail.Goals as goal

pub invariant_of-self : goal.invariant_of-self
invariant_of-self c =
    let boxes = c.self.inside.boxes.entries in
    let first : IsFirstWithMail (held boxes) c.in-Some.first = subst (λ found. MatchOption found (NoMail (held boxes)) (IsFirstWithMail (held boxes))) c.in-Some.is c.in_ok-first.ensures in
    bounded_by boxes c.in_ok-copy-in-Some.field-0 c.self.invariant.rises (subst (IsFirstWithMail (held boxes)) (sym c.in_ok-copy-in-Some.ensures) first)
