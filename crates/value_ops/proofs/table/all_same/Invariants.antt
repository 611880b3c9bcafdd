use Rattle.std.proofs.Common.{◌≡◌, drop}
use Rattle.std.specs.List.{list_all}
use Rattle.value_core.specs.primitives.Equality.{same_value}
use Rattle.value_ops.proofs.table.all_same.Given as goal

abbrev pub invariant-loop-other : goal.invariant-loop-other
invariant-loop-other l = list_all (same_value l.first) (drop l.other-index l.others) ≡ list_all (same_value l.first) l.others
