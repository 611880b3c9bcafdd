use Rattle.std.proofs.Common.{◌≡◌, ◌∙◌, ap, subst, sym}
use Rattle.std.specs.Prelude.{Some, drop}
use Rattle.tentative_turn.specs.Turn.{Turn}
use Rattle.turns_ahead.proofs.Lines.{settled-so}
use Rattle.turns_ahead.proofs.turn_ahead.TurnAhead.settle_first.Goals as goal
use Rattle.turns_ahead.specs.contracts.turn_ahead.TurnAhead as kept
use Rattle.turns_ahead.specs.Leading.{becomes_or, HasSettled, IsLeftNext, Leading}

pub returns-clause-settled : goal.returns-clause-settled
returns-clause-settled c =
    let l : Leading = kept.the_view c.self.inside in
    let left = c.in_ok-left.left in
    let r = c.in-Some-Asked.request in
    let after = λ (t : Turn). record l { turn = t; answers = left.answers; made = left.made; becomes = becomes_or left.becomes l.becomes } in
    let new_is : c.leave_at.new.self ≡ after (record l.turn { effects = drop 1 l.turn.effects }) = c.leave_at.ensures ∙ ap after c.flush.ensures.others in
    subst (λ (old : Leading). HasSettled old r c.leave_at.new.self) c.self.view_is (subst (HasSettled l r) (sym new_is) (settled-so l left r c.in-Some-Asked.field-0-1 c.self.invariant
    (subst (λ (old : Leading). IsLeftNext old left) (sym c.self.view_is) c.in_ok-left.ensures) (sym c.flush.ensures.first ∙ c.in-Some-Asked.is ∙ ap Some c.in-Some-Asked.field-0-is)))
