use Rattle.std.proofs.Common.{◌≡◌, drop}
use Rattle.std.specs.List.{list_all}
use Rattle.value_core.specs.primitives.Kinds.{is_int}
use Rattle.int_ops.proofs.ints.all_ints.Given as goal

abbrev pub invariant-loop-value : goal.invariant-loop-value
invariant-loop-value l = list_all is_int (drop l.value-index l.args) ≡ list_all is_int l.args
