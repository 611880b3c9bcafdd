use Rattle.std.proofs.Common.{◌≡◌}
use Rattle.std.specs.Vec.Iter.{into_iter_items}
use Rattle.value_core.specs.Named.{over}
use Rattle.attempt_commits.proofs.commits.written.Given as goal

abbrev pub invariant-loop-name : goal.invariant-loop-name
invariant-loop-name l = over (into_iter_items l.name-iterator) l.writes.items ≡ l.log.log.writes
