use Rattle.std.proofs.Common.{◌≡◌, ◌-◌, map, drop}
use Rattle.value_core.specs.primitives.Ints.{in_order}
use Rattle.int_ops.specs.Ints.{relation_of}
use Rattle.value_core.specs.primitives.Kinds.{int_of}
use Rattle.int_ops.proofs.ints.is_in_order.Given as goal

abbrev pub invariant-loop-index : goal.invariant-loop-index
invariant-loop-index l = in_order (relation_of l.kind) (map int_of (drop (l.index - 1) l.args)) ≡ in_order (relation_of l.kind) (map int_of l.args)
