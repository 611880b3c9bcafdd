use Rattle.std.proofs.Common.{drop}
use Rattle.std.specs.Prelude.{All}
use Rattle.value_ops.specs.Depths.{IsPart}
use Rattle.value_ops.proofs.table.are_parts.Given as goal

abbrev pub invariant-loop-value : goal.invariant-loop-value
invariant-loop-value l = All IsPart (drop l.value-index l.values) → All IsPart l.values
