use Rattle.eval_step.specs.Evaluation.{IsOf}
use Rattle.tree_tests.proofs.trees.after.Given as goal

abbrev pub invariant-loop-value : goal.invariant-loop-value
invariant-loop-value l = IsOf l.program l.machine
