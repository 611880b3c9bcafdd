use Rattle.std.proofs.Common.{◌≡◌, ◌∙◌, ap, subst, sym}
use Rattle.std.specs.Option.{is_some}
use Rattle.shared_world.specs.rows.Leading.{leads_on}
use Rattle.turns_ahead.proofs.Settled.{copied-there, holds-so}
use Rattle.turns_ahead.proofs.turn_ahead.TurnAhead.holds.Goals as goal
use Rattle.turns_ahead.specs.contracts.turn_ahead.TurnAhead as kept
use Rattle.turns_ahead.specs.Leading.{ahead_of, AreAsked, Leading}

pub returns : goal.returns
returns c =
    let l : Leading = kept.the_view c.self.inside in
    subst (λ (k : Leading). AreAsked k.turn.effects → c.is_some.result ≡ is_some (leads_on (ahead_of k))) c.self.view_is (λ are. c.is_some.ensures ∙ copied-there c.next_held.result ∙ ap is_some c.next_held.ensures ∙ holds-so l are)
