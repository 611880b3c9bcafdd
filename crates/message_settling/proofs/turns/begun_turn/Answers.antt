use Rattle.std.proofs.Common.{◌∙◌, ap, sym}
use Rattle.std.specs.Option.{option_copied}
use Rattle.std.proofs.lemmas.Result.{IfOk-weaker}
use Rattle.message_settling.proofs.turns.begun_turn.Goals as goal

pub returns-in-Some : goal.returns-in-Some
returns-in-Some c = IfOk-weaker c.child.result _ _ (λ turn is. record { actor = c.in-Some.actor.now; there = sym c.actor.ensures ∙ ap option_copied c.in-Some.is; called = is }) c.child.ensures
