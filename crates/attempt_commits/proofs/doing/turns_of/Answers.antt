use Rattle.std.proofs.Common.{ℕ, subst}
use Rattle.attempt_commits.proofs.Letters.{TurnsBut, turn-made}
use Rattle.attempt_commits.proofs.doing.turns_of.Goals as goal
use Rattle.value_core.specs.Named.{Named}
use Rattle.value_core.specs.Placed.{filled}

pub loop-to-preserved : goal.loop-to-preserved
loop-to-preserved c =
    turn-made c.args.root.now c.args.counts.now.entries c.next.new.self c.in-Some.to.now c.in-Some._count.now (filled c.args.kept.now.taken) c.args.kept.now.units c.loop-to.turns.entries c.add_turn.new.turns.entries
    (subst (λ (left : Named ℕ). TurnsBut c.args.root.now c.args.counts.now.entries left (filled c.args.kept.now.taken) c.args.kept.now.units c.loop-to.turns.entries) c.in-Some.ensures.steps c.loop-to.invariant) c.in_ok-add_turn.ensures
