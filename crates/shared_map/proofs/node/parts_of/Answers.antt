use Rattle.std.proofs.Common.{◌∙◌}
use Rattle.shared_map.proofs.node.parts_of.Goals as goal
use Rattle.shared_map.proofs.Unfolded.{unfolded}

pub returns : goal.returns
returns g c = unfolded c.args.node.now ∙ cc (c.in_ok-left.ensures, c.in_ok-right.ensures, c.in_ok-try_clone.ensures)
