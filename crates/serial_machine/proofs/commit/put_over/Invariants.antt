use Rattle.std.proofs.Common.{◌≡◌}
use Rattle.std.specs.Vec.Iter.{into_iter_items}
use Rattle.value_core.specs.Named.{over}
use Rattle.serial_machine.proofs.commit.put_over.Given as goal

abbrev pub invariant-loop-name : goal.invariant-loop-name
invariant-loop-name l = over (into_iter_items l.name-iterator) l.refs.entries ≡ over l.writes l.fn.refs.entries
