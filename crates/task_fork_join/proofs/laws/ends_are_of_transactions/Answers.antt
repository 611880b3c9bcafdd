use Rattle.task_fork_join.proofs.Ends.{ends_are_of_transactions}
use Rattle.task_fork_join.proofs.laws.ends_are_of_transactions.Goals as goal

pub returns : goal.returns
returns c = ends_are_of_transactions
