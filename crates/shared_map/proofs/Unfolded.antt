-- The entries of a node are those of its parts.
use Rattle.std.proofs.Common.{◌≡◌, ◌∙◌, ℕ, ◌++◌, ◌∷◌, refl}
use Rattle.std.specs.Prelude.{Option, None, Some}
use Rattle.std.specs.declared.alloc.Global.{Global}
use Rattle.std.specs.declared.sync.Arc.{Arc}
use Rattle.shared_map.specs.declared.node.Entry.{Entry}
use Rattle.shared_map.specs.declared.node.Node.{Node}
use Rattle.shared_map.specs.declared.node.Node.TheFolds.{fold-Node, fold_out-Node, map-Node}
use Rattle.shared_map.specs.declared.node.Node.TheViews.{out-Node}
use Rattle.shared_map.specs.Trees.{node_items, node_step, pair_of, tree_items}
use Rattle.value_core.specs.Named.{Named}

pub unfolded : {X : Type 0} (n : Node X) → node_items n ≡ tree_items (out-Node X n).left ++ pair_of (out-Node X n).entry ∷ tree_items (out-Node X n).right
unfolded {X} n = fold_out-Node X (Named X) node_step n ∙ on (out-Node X n).left (out-Node X n).right (out-Node X n).entry (out-Node X n).height
  where
    on : (left right : Option (Arc (Node X) Global)) (entry : Arc (Entry X) Global) (height : ℕ)
        → node_step (map-Node X (Node X) (Named X) (fold-Node X (Named X) node_step) (record { left = left; entry = entry; right = right; height = height })) ≡ tree_items left ++ pair_of entry ∷ tree_items right
    on None None entry height = refl
    on None (Some r) entry height = refl
    on (Some l) None entry height = refl
    on (Some l) (Some r) entry height = refl
