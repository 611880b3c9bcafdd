use Rattle.attempt_undoing.proofs.Walk.{IsWalked}
use Rattle.attempt_undoing.proofs.hanging.next_hanging.Given as goal
use Rattle.value_core.specs.Placed.{filled}

-- those that were passed do not hang
abbrev pub invariant-loop-name : goal.invariant-loop-name
invariant-loop-name l = IsWalked (filled l.taken) l.units l.aheads.entries l.name-iterator
