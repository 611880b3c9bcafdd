use Rattle.std.proofs.Common.{◌≡◌, List, subst}
use Rattle.std.specs.Prelude.{IfOk}
use Rattle.tentative_turn.specs.Sending.{request_receivers}
use Rattle.turns_ahead.proofs.Lines.{receivers-asked}
use Rattle.turns_ahead.proofs.turn_ahead.TurnAhead.receivers.Goals as goal
use Rattle.turns_ahead.specs.Leading.{asked, Leading}
use Rattle.value_core.specs.Named.{Name}

pub returns : goal.returns
returns c = subst (λ (l : Leading). IfOk c.receivers.result (λ names. names.items ≡ request_receivers (asked l.turn.effects))) c.self.view_is
    (subst (λ (all : List Name). IfOk c.receivers.result (λ names. names.items ≡ all)) (receivers-asked c.self.inside.held.effects) c.receivers.ensures)
