-- The machine has gone on by some answers.
use Rattle.std.specs.Prelude.{ℕ}
use Rattle.world_reset.proofs.left.go_to.Given as goal
use Rattle.world_reset.specs.Left.{HasGoneOn}

abbrev pub invariant-loop : goal.invariant-loop
invariant-loop l = (n : ℕ) × HasGoneOn l.program n l.fn.machine l.machine
