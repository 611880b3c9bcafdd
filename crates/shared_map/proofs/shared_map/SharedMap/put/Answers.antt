use Rattle.std.proofs.Common.{subst, sym}
use Rattle.shared_map.proofs.shared_map.SharedMap.put.Goals as goal
use Rattle.shared_map.specs.Trees.{tree_items}
use Rattle.value_core.proofs.NamedLaws.{rises-with_named}
use Rattle.value_core.specs.Named.{Rises}

pub invariant_of-self : goal.invariant_of-self
invariant_of-self g c = subst Rises (sym c.in_ok-root.ensures) (rises-with_named {X = g.row.V.Denot} _ _ (tree_items c.self.inside.root) c.self.invariant)
