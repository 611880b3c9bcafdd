use Rattle.std.proofs.Common.{◌+◌, ◌*◌, length}
use Rattle.shared_map.proofs.putting.+put.Given as goal
use Rattle.shared_map.specs.Trees.{node_items, tree_items}

abbrev pub decreases-beside : goal.decreases-beside
decreases-beside g l = 2 * length (node_items l.node.now)

abbrev pub decreases-with_entry : goal.decreases-with_entry
decreases-with_entry g l = 2 * length (tree_items l.tree.now) + 1
