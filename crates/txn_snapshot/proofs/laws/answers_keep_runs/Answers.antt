use Rattle.txn_snapshot.proofs.TreeAnswers.{answers_keep_runs}
use Rattle.txn_snapshot.proofs.laws.answers_keep_runs.Goals as goal

pub returns : goal.returns
returns c = answers_keep_runs
