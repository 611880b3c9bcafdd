use Rattle.std.proofs.Common.{◌≡◌, ◌≤◌, map, drop, length}
use Rattle.value_core.specs.primitives.Ints.{folded}
use Rattle.int_ops.specs.Ints.{step_of}
use Rattle.value_core.specs.primitives.Kinds.{int_of}
use Rattle.int_ops.proofs.ints.folded.Given as goal

abbrev pub invariant-loop-index : goal.invariant-loop-index
invariant-loop-index l = record {
  within : l.index ≤ length l.args;
  left : folded (step_of l.kind) l.so_far (map int_of (drop l.index l.args)) ≡ folded (step_of l.kind) l.start (map int_of (drop l.from l.args));
}
