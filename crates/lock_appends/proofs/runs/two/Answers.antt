use Rattle.std.proofs.Common.{arith}
use Rattle.lock_appends.proofs.Counting.{exactly_two}
use Rattle.lock_appends.proofs.runs.two.Goals as goal

pub returns-clause-exactly : goal.returns-clause-exactly
returns-clause-exactly g c =
    exactly_two c.args.times _ _ _ (rw c.in_ok-outcome.was at c.append_by_two-all.ensures.counted) c.closed-listed.ensures.seen c.closed-listed.ensures.length
    (omega (arith, (rw c.in_ok-outcome.was at c.append_by_two-all.ensures.each_once), c.cut-workers.ensures.none.0, c.cut-workers.ensures.none.1))
