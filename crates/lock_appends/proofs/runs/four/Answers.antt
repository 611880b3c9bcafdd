use Rattle.std.proofs.Common.{arith}
use Rattle.lock_appends.proofs.Counting.{exactly_four}
use Rattle.lock_appends.proofs.runs.four.Goals as goal

pub returns-clause-exactly : goal.returns-clause-exactly
returns-clause-exactly g c =
    exactly_four c.args.times _ _ _ (rw c.in_ok-outcome.was at c.append_by_four-all.ensures.first) (rw c.in_ok-outcome.was at c.append_by_four-all.ensures.second)
    c.closed-listed.ensures.seen c.closed-listed.ensures.length
    (omega (arith, (rw c.in_ok-outcome.was at c.append_by_four-all.ensures.each_once), c.cut-worker.ensures.none.1, c.cut-worker-2.ensures.none.1, c.cut-worker-3.ensures.none.0, c.cut-worker-3.ensures.none.1))
