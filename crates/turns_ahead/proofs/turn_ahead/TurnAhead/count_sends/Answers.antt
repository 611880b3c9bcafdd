use Rattle.std.proofs.Common.{◌≡◌, ◌∙◌, length, subst}
use Rattle.serial_model.specs.Sends.{sends_to}
use Rattle.turns_ahead.proofs.Lines.{sent-asked}
use Rattle.turns_ahead.proofs.turn_ahead.TurnAhead.count_sends.Goals as goal
use Rattle.turns_ahead.specs.Leading.{asked, Leading}

pub returns : goal.returns
returns c = subst (λ (l : Leading). c.count_sends.result ≡ length (sends_to c.args.to.now (asked l.turn.effects))) c.self.view_is (c.count_sends.ensures ∙ sent-asked c.args.to.now c.self.inside.held.effects)
