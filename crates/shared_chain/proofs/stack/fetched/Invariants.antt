use Rattle.std.proofs.Common.{◌≡◌, length}
use Rattle.shared_chain.specs.Chunks.{joined}
use Rattle.shared_chain.proofs.stack.fetched.Given as goal

abbrev pub invariant-loop-chunk : goal.invariant-loop-chunk
invariant-loop-chunk g l = joined l.below ≡ joined l.initial.below

abbrev pub decreases-loop-chunk : goal.decreases-loop-chunk
decreases-loop-chunk g l = length l.below
