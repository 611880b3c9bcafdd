use Rattle.std.proofs.Common.{◌+◌, ◌*◌, length}
use Rattle.shared_map.proofs.in_order.+push.Given as goal
use Rattle.shared_map.specs.Trees.{node_items, tree_items}

abbrev pub decreases-push_node : goal.decreases-push_node
decreases-push_node g l = 2 * length (node_items l.node.now)

abbrev pub decreases-push_all : goal.decreases-push_all
decreases-push_all g l = 2 * length (tree_items l.tree.now) + 1
