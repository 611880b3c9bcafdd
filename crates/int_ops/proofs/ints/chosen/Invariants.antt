use Rattle.std.proofs.Common.{◌≡◌, map, fold, drop}
use Rattle.int_ops.specs.Ints.{choice_of}
use Rattle.value_core.specs.primitives.Kinds.{int_of}
use Rattle.int_ops.proofs.ints.chosen.Given as goal

abbrev pub invariant-loop-index : goal.invariant-loop-index
invariant-loop-index l = fold (choice_of l.kind) l.best (map int_of (drop l.index l.args)) ≡ fold (choice_of l.kind) l.initial.best (map int_of (drop 1 l.args))
