use Rattle.std.proofs.Common.{◌≡◌, length}
use Rattle.turn_tests.proofs.links.linked.Given as goal

abbrev pub invariant-loop-on : goal.invariant-loop-on
invariant-loop-on l = length l.links.items ≡ l.on-index
