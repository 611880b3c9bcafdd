use Rattle.value_core.proofs.primitives.Same.{same_answer}
use Rattle.value_ops.proofs.table.is_same.Goals as goal

pub returns : goal.returns
returns c = same_answer c.args.left.now c.args.right.now c.equal.result c.equal.ensures.0 c.equal.ensures.1
