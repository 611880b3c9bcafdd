use Rattle.attempt_commits.proofs.Letters.{TurnsBut}
use Rattle.attempt_commits.proofs.doing.turns_of.Given as goal
use Rattle.value_core.specs.Placed.{filled}

abbrev pub invariant-loop-to : goal.invariant-loop-to
invariant-loop-to l = TurnsBut l.root l.counts.entries l.to-iterator (filled l.kept.taken) l.kept.units l.turns.entries
