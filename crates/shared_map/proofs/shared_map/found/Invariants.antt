use Rattle.std.proofs.Common.{◌≡◌, length}
use Rattle.shared_map.proofs.shared_map.found.Given as goal
use Rattle.shared_map.specs.Trees.{tree_items}
use Rattle.value_core.specs.Named.{Rises, named}

abbrev pub invariant-loop-at : goal.invariant-loop-at
invariant-loop-at g l = record {
  rises : Rises (tree_items l.at);
  same : named l.name (tree_items l.at) ≡ named l.name (tree_items l.fn.tree);
}

abbrev pub decreases-loop-at : goal.decreases-loop-at
decreases-loop-at g l = length (tree_items l.at)
