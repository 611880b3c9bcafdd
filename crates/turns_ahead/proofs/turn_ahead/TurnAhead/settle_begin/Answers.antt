use Rattle.std.proofs.Common.{◌≡◌, ◌∙◌, ap, subst, sym}
use Rattle.std.specs.Option.{IsSome}
use Rattle.tentative_turn.specs.Turn.{Turn}
use Rattle.turns_ahead.proofs.Settled.{behind-begin}
use Rattle.turns_ahead.proofs.turn_ahead.TurnAhead.settle_begin.Goals as goal
use Rattle.turns_ahead.specs.contracts.turn_ahead.TurnAhead as kept
use Rattle.turns_ahead.specs.Leading.{begins, AreAsked, Leading}

pub returns-clause-asked : goal.returns-clause-asked
returns-clause-asked c =
    let l : Leading = kept.the_view c.self.inside in
    subst (λ (t : Turn). AreAsked t.effects) (sym c.flush.ensures.others) (behind-begin l.turn.effects c.self.invariant (subst (λ (old : Leading). IsSome (begins old.turn.effects)) (sym c.self.view_is) c.requires))
