use Rattle.std.proofs.Common.{◌≡◌, ◌∙◌, ap, subst, sym}
use Rattle.std.specs.Prelude.{IfSome, drop}
use Rattle.tentative_turn.specs.Turn.{Turn}
use Rattle.turns_ahead.proofs.Settled.{behind-request, settled-by}
use Rattle.turns_ahead.proofs.turn_ahead.TurnAhead.settle_by.Goals as goal
use Rattle.turns_ahead.specs.contracts.turn_ahead.TurnAhead as kept
use Rattle.turns_ahead.specs.Leading.{becomes_or, first_asked, AreAsked, HasSettled, IsLeftNext, Leading}

pub returns-clause-settled : goal.returns-clause-settled
returns-clause-settled c =
    let l : Leading = kept.the_view c.self.inside in
    let left = c.args.left in
    let after = λ (t : Turn). record l { turn = t; answers = left.answers; made = left.made; becomes = becomes_or left.becomes l.becomes } in
    let new_is : c.leave_at.new.self ≡ after (record l.turn { effects = drop 1 l.turn.effects }) = c.leave_at.ensures ∙ ap after c.flush-first.ensures.others in
    subst (λ (old : Leading). IfSome (first_asked old.turn.effects) (λ r. HasSettled old r c.leave_at.new.self)) c.self.view_is
    (subst (λ k. IfSome (first_asked l.turn.effects) (λ r. HasSettled l r k)) (sym new_is) (settled-by l left c.self.invariant (subst (λ (old : Leading). IsLeftNext old left) (sym c.self.view_is) c.requires)))

pub returns-clause-asked : goal.returns-clause-asked
returns-clause-asked c =
    let l : Leading = kept.the_view c.self.inside in
    let left = c.args.left in
    let after = λ (t : Turn). record l { turn = t; answers = left.answers; made = left.made; becomes = becomes_or left.becomes l.becomes } in
    let new_is : c.leave_at.new.self ≡ after (record l.turn { effects = drop 1 l.turn.effects }) = c.leave_at.ensures ∙ ap after c.flush-first.ensures.others in
    subst (λ (k : Leading). AreAsked k.turn.effects) (sym new_is) (behind-request l left c.self.invariant (subst (λ (old : Leading). IsLeftNext old left) (sym c.self.view_is) c.requires))
