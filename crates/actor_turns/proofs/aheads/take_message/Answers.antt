use Rattle.std.proofs.Common.{◌≡◌, ◌∙◌, ◌∷◌, ap, cond, sym}
use Rattle.std.specs.Prelude.{Some}
use Rattle.actor_mails.specs.Mails.{held, mail_at}
use Rattle.value_core.proofs.NamedLaws.{named-with_named}
use Rattle.value_core.specs.Named.{named, same_name}
use Rattle.value_core.specs.Placed.{filled}
use Rattle.actor_turns.proofs.aheads.take_message.Goals as goal

pub returns-in-Some-clause-taken : goal.returns-in-Some-clause-taken
returns-in-Some-clause-taken c = λ m rest e other.
    let name = c.args.name.now in
    let before = filled c.args.taken.now in
    let both : c.in-Some.message ∷ mail_at (held c.take.new.self) name ≡ m ∷ rest = sym c.in-Some.ensures.taken.0 ∙ e in
    let same : c.in-Some.message ≡ m = cc in
    ap (named other) c.fill.ensures.shows ∙ named-with_named other name c.in-Some.message before ∙ ap (λ k. cond (same_name other name) (Some k) (named other before)) same
