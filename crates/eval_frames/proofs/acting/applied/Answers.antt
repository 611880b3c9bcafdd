use Rattle.value_ops.proofs.Depths.{applied-shallow}
use Rattle.eval_frames.proofs.acting.applied.Goals as goal

pub new-requires : goal.new-requires
new-requires c = λ holds. applied-shallow c.args.op c.into_values.result.items c.in-Ok.value c.in-Ok.ensures
