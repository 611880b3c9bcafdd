use Rattle.std.proofs.Common.{◌≡◌}
use Rattle.std.specs.VecDeque.Iter.{deque_iter_rest}
use Rattle.attempt_undoing.proofs.SendsGone.{SendsLeft}
use Rattle.attempt_undoing.proofs.sends.drop_held.Given as goal
use Rattle.attempt_undoing.specs.Hanging.{sends_on}
use Rattle.tentative_turn.specs.Sending.{held_receivers}
use Rattle.world_steps.specs.Kept.{shared_of}

-- what the effects behind send is left
abbrev pub invariant-loop-effect : goal.invariant-loop-effect
invariant-loop-effect l = record {
  left : SendsLeft (sends_on l.name (held_receivers l.turn.turn.effects)) (sends_on l.name (held_receivers (deque_iter_rest l.effect-iterator))) (shared_of l.fn.kept) (shared_of l.kept);
  others : l.kept ≡ record l.fn.kept { units = l.kept.units; mails = l.kept.mails; taken = l.kept.taken };
}
