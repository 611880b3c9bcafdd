use Rattle.std.proofs.Common.{◌≡◌}
use Rattle.ref_store.specs.Pruned.{has_between}
use Rattle.attempts_gone.specs.Live.{snapshots_in}
use Rattle.attempts_gone.proofs.snapshots.any_between.Given as goal

-- it is so of those that are left where it is so of all
abbrev pub invariant-loop-name : goal.invariant-loop-name
invariant-loop-name l = has_between l.from l.to (snapshots_in l._name-iterator) ≡ has_between l.from l.to (snapshots_in l.attempts.entries)
