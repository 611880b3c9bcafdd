use Rattle.std.specs.Vec.Iter.{into_iter_items}
use Rattle.attempt_commits.proofs.Letters.{AreComing}
use Rattle.attempt_commits.proofs.doing.settle_letters.Given as goal
use Rattle.value_core.specs.Placed.{filled}

abbrev pub invariant-loop-letter : goal.invariant-loop-letter
invariant-loop-letter l = AreComing l.root l.turns.entries l.fn.letters.items (into_iter_items l.letter-iterator) (filled l.fn.taken) (filled l.taken) l.fn.mails l.mails l.fn.units l.units
