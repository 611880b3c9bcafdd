use Rattle.std.proofs.Common.{◌≡◌, fold}
use Rattle.std.specs.Vec.Iter.{into_iter_items}
use Rattle.serial_model.specs.Log.{with_missing}
use Rattle.task_log.proofs.log.TaskLog.take_effects.Given as goal

abbrev pub invariant-loop-effect : goal.invariant-loop-effect
invariant-loop-effect l = record {
  left : fold with_missing l.self.effects (into_iter_items l.effect-iterator) ≡ fold with_missing l.fn.self.effects l.child.effects;
  others : l.self ≡ record l.fn.self { effects = l.self.effects };
}
