use Rattle.std.proofs.Common.{◌≡◌}
use Rattle.std.specs.Vec.Iter.{into_iter_items}
use Rattle.value_core.specs.Named.{over}
use Rattle.shared_map.proofs.shared_map.SharedMap.put_all.Given as goal

abbrev pub invariant-loop-name : goal.invariant-loop-name
invariant-loop-name g l = over (into_iter_items l.name-iterator) l.both ≡ over l.more l.fn.self
