use Rattle.task_fork_join.proofs.Halts.{halts_at}
use Rattle.tree_tests.proofs.trees.run.Goals as goal

pub returns : goal.returns
returns c = halts_at c.args.program.now c.args.machine c.run_to_ask.new.self c.in_ok-halt.halt c.in_ok-halt.ensures.halt c.run_to_ask.ensures.kept c.in_ok-halt.ensures.asks
