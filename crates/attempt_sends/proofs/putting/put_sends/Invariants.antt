use Rattle.std.specs.Vec.Iter.{into_iter_items}
use Rattle.attempt_sends.proofs.Puts.{ArePutting}
use Rattle.attempt_sends.proofs.putting.put_sends.Given as goal

-- the messages that were passed are put or kept
abbrev pub invariant-loop-letter : goal.invariant-loop-letter
invariant-loop-letter l = ArePutting l.fn.kept l.kept l.fn.letters.items (into_iter_items l.letter-iterator)
