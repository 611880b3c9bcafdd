-- What is kept goes on, and the walk stands.
use Rattle.run_end.proofs.finishing.settle_all.Given as goal
use Rattle.run_end.specs.Finishing.{GoesOn}
use Rattle.run_end.specs.InTurn.{IsWalkedOr}
use Rattle.world_steps.specs.Kept.{shared_of}

abbrev pub invariant-loop : goal.invariant-loop
invariant-loop l = record { goes : GoesOn (shared_of l.fn.kept) (shared_of l.kept); walked : IsWalkedOr (shared_of l.kept) l.passed }
