use Rattle.std.proofs.Common.{sym, subst}
use Rattle.std.proofs.lemmas.Result.{IfOk-weaker}
use Rattle.std.specs.Option.{option_copied}
use Rattle.txn_snapshot.specs.SnapshotAnswer.{Reply}
use Rattle.txn_snapshot.specs.SnapshotTask.{private, Stays}
use Rattle.txn_snapshot.proofs.Replies.{reading_stays}
use Rattle.txn_snapshot.proofs.log.TaskLog.answer.Goals as goal

pub returns-in-Deref-clause-stays : goal.returns-in-Deref-clause-stays
returns-in-Deref-clause-stays c =
    let task = c.args.self.now in
    let name = c.in-Deref.name in
    IfOk-weaker c.read.result _ _
    (λ found is. subst (λ (r : Reply). Stays task r.1) (sym is) (reading_stays task name (private task name) (option_copied c.read_at.result))) c.read.ensures.read
