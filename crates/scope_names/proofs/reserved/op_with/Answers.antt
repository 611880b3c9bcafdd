use Rattle.scope_names.proofs.OpNames.{op_named_as}
use Rattle.scope_names.proofs.reserved.op_with.Goals as goal

pub returns : goal.returns
returns c = op_named_as _ _ c.op_named.ensures
