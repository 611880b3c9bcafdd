use Rattle.std.proofs.Common.{◌+◌, ◌*◌, length}
use Rattle.shared_map.proofs.in_order.+name.Given as goal
use Rattle.shared_map.specs.Trees.{node_items, tree_items}

abbrev pub decreases-push_node_names : goal.decreases-push_node_names
decreases-push_node_names g l = 2 * length (node_items l.node.now)

abbrev pub decreases-push_names : goal.decreases-push_names
decreases-push_names g l = 2 * length (tree_items l.tree.now) + 1
