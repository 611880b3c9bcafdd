use Rattle.task_fork_join.proofs.Begins.{new_attempts_run}
use Rattle.task_fork_join.proofs.laws.new_attempts_run.Goals as goal

pub returns : goal.returns
returns c = new_attempts_run
