-- The machine has gone on by so many answers.
use Rattle.world_reset.proofs.left.go_by.Given as goal
use Rattle.world_reset.specs.Left.{HasGoneOn}

abbrev pub invariant-loop-given : goal.invariant-loop-given
invariant-loop-given l = HasGoneOn l.program l.given l.fn.machine l.machine
