use Rattle.std.proofs.Common.{sym, ◌∙◌, arith}
use Rattle.value_core.proofs.Names.{after_cmp_end}
use Rattle.value_core.proofs.name.compare.Goals as goal

-- the one list begins with the other
pub returns : goal.returns
returns c = c.cmp.ensures ∙ sym (c.loop-index.invariant ∙ after_cmp_end c.args.left.now c.args.right.now c.loop-index.index (omega arith) (omega arith) (omega arith))
