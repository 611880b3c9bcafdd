-- The entries of a tree of nodes, in order.
use Rattle.std.specs.Prelude.{◌∷◌, ◌++◌, [], Option, None, Some}
use Rattle.std.specs.declared.alloc.Global.{Global}
use Rattle.std.specs.declared.sync.Arc.{Arc}
use Rattle.shared_map.specs.declared.node.Entry.{Entry}
use Rattle.shared_map.specs.declared.node.Node.{Node}
use Rattle.shared_map.specs.declared.node.Node.TheFolds.{fold-Node}
use Rattle.shared_map.specs.declared.node.Node.TheOpen as one
use Rattle.value_core.specs.Named.{Name, Named}

-- an entry as a name and what stands under it
abbrev pub pair_of : {X : Type 0} → Arc (Entry X) Global → Name × X
pair_of entry = (entry.value.name, entry.value.value)

-- the entries of one side
abbrev pub side_items : {X : Type 0} → Option (Arc (Named X) Global) → Named X
side_items None = []
side_items (Some more) = more.value

abbrev pub node_step : {X : Type 0} → one.Node-F X (Named X) → Named X
node_step n = side_items n.left ++ pair_of n.entry ∷ side_items n.right

-- the entries before that of the node, its own, and those after it
abbrev pub node_items : {X : Type 0} → Node X → Named X
node_items {X} = fold-Node X (Named X) node_step

-- the entries of a tree
abbrev pub tree_items : {X : Type 0} → Option (Arc (Node X) Global) → Named X
tree_items None = []
tree_items (Some node) = node_items node.value
