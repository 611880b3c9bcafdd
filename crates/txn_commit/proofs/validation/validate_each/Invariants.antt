use Rattle.std.proofs.Common.{All, take}
use Rattle.txn_commit.specs.Conflict.{IsUnchanged}
use Rattle.txn_commit.proofs.validation.validate_each.Given as goal

abbrev pub invariant-loop-index : goal.invariant-loop-index
invariant-loop-index l = All (IsUnchanged l.store.versions l.snapshot) (take l.index l.reads)
