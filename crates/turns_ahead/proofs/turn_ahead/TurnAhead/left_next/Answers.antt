use Rattle.std.proofs.Common.{◌∙◌, ap, subst, sym}
use Rattle.std.specs.Option.{option_copied}
use Rattle.std.specs.Prelude.{IfOk, Some}
use Rattle.turns_ahead.proofs.Lines.{left-next}
use Rattle.turns_ahead.proofs.turn_ahead.TurnAhead.left_next.Goals as goal
use Rattle.turns_ahead.specs.contracts.turn_ahead.TurnAhead as kept
use Rattle.turns_ahead.specs.Leading.{IsLeftNext, Leading}

pub returns-in-Some-Asked : goal.returns-in-Some-Asked
returns-in-Some-Asked c =
    subst (λ (l : Leading). IfOk c.left_by.result (IsLeftNext l)) c.self.view_is
    (left-next (kept.the_view c.self.inside) c.in-Some-Asked.request c.in-Some-Asked.field-0-1 c.left_by.result (sym c.next_held.ensures ∙ ap option_copied c.in-Some-Asked.is ∙ ap Some c.in-Some-Asked.field-0-is) c.left_by.ensures)
