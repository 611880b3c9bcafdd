use Rattle.std.proofs.Common.{arith}
use Rattle.txn_commit.proofs.ReadLaws.{all_looked_at, all_unchanged_read}
use Rattle.txn_commit.proofs.validation.validate_each.Goals as goal

pub returns-clause-unchanged : goal.returns-clause-unchanged
returns-clause-unchanged c = all_looked_at c.args.store.now.versions c.args.snapshot c.args.reads.now c.loop-index.index (omega (arith, c.loop-index-test.false)) c.loop-index.invariant

pub returns-clause-reads_as_then : goal.returns-clause-reads_as_then
returns-clause-reads_as_then c =
    all_unchanged_read c.args.store.now.versions c.args.snapshot c.args.reads.now (all_looked_at c.args.store.now.versions c.args.snapshot c.args.reads.now c.loop-index.index (omega (arith, c.loop-index-test.false)) c.loop-index.invariant)
