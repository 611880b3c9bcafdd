use Rattle.std.proofs.Common.{sym}
use Rattle.txn_commit.proofs.ReadLaws.{changed_if_above}
use Rattle.txn_commit.proofs.validation.version_above.Goals as goal

pub returns-in-Some-clause-changed : goal.returns-in-Some-clause-changed
returns-in-Some-clause-changed c = changed_if_above c.args.store.now.versions c.args.snapshot c.args.name.now c.in-Some.version.now (sym c.in-Some.ensures.version) c.number_above.result c.number_above.ensures.above
