use Rattle.std.proofs.Common.{◌≡◌, ◌≢◌, ℕ, ◌<◌, get_or}
use Rattle.value_core.specs.declared.op.Op.{Op}
use Rattle.value_ops.specs.declared.words.TheConstants.{ALL}
use Rattle.value_core.specs.primitives.Words.{op_word}
use Rattle.value_ops.proofs.words.op_named.Given as goal

abbrev pub invariant-loop-op : goal.invariant-loop-op
invariant-loop-op l = record { table : l.op-items ≡ ALL; none : (k : ℕ) (d : Op) → k < l.op-index → op_word (get_or ALL k d) ≢ l.word }
