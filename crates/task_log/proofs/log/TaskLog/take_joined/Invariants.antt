use Rattle.std.proofs.Common.{◌≡◌, fold}
use Rattle.std.specs.Vec.Iter.{into_iter_items}
use Rattle.value_core.specs.Named.{with_name}
use Rattle.task_log.proofs.log.TaskLog.take_joined.Given as goal

abbrev pub invariant-loop-name : goal.invariant-loop-name
invariant-loop-name l = record {
  left : fold with_name l.self.joined (into_iter_items l.name-iterator) ≡ fold with_name (with_name l.fn.self.joined l.future) l.child.joined;
  others : l.self ≡ record l.fn.self { joined = l.self.joined };
}
