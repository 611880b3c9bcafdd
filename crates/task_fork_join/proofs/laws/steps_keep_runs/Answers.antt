use Rattle.task_fork_join.proofs.Steps.{steps_keep_runs}
use Rattle.task_fork_join.proofs.laws.steps_keep_runs.Goals as goal

pub returns : goal.returns
returns c = steps_keep_runs
