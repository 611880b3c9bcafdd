use Rattle.std.proofs.Common.{◌≡◌, ◌++◌}
use Rattle.std.specs.VecDeque.Iter.{deque_iter_rest}
use Rattle.tentative_turn.proofs.held.list_receivers.Given as goal
use Rattle.tentative_turn.specs.Sending.{held_receivers}

abbrev pub invariant-loop-effect : goal.invariant-loop-effect
invariant-loop-effect l = l.names.items ++ held_receivers (deque_iter_rest l.effect-iterator) ≡ held_receivers l.effects.items
