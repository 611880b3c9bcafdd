use Rattle.std.proofs.Common.{refl, subst}
use Rattle.tentative_turn.specs.Turn.{answered_ahead}
use Rattle.turns_ahead.proofs.Lines.{gone-line, gone-so}
use Rattle.turns_ahead.proofs.turn_ahead.TurnAhead.go.Goals as goal
use Rattle.turns_ahead.specs.contracts.turn_ahead.TurnAhead as kept
use Rattle.turns_ahead.specs.Leading.{HasGone, Leading}

pub invariant_of-self-2 : goal.invariant_of-self-2
invariant_of-self-2 c = gone-line c.self.inside.held c.run_ahead.new.self c.args.request (answered_ahead c.self.inside.held c.args.request) c.in_ok-ahead.ahead c.in_ok-ahead.ensures.ahead c.self.invariant

pub returns-clause-went : goal.returns-clause-went
returns-clause-went c =
    let new : Leading = record (kept.the_view c.self.inside) { turn = c.run_ahead.new.self; waits = c.must_wait-self-inside.result } in
    subst (λ (old : Leading). HasGone old c.args.request new c.in_ok-ahead.ahead) c.self.view_is
    (gone-so (kept.the_view c.self.inside) c.run_ahead.new.self c.args.request (answered_ahead c.self.inside.held c.args.request) c.must_wait-self-inside.result c.in_ok-ahead.ahead refl c.in_ok-ahead.ensures.ahead c.must_wait-self-inside.ensures c.in_ok-ahead.ensures.waits.0)
