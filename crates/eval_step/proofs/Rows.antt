-- The row of a node that is known.
use Rattle.std.proofs.Common.{◌≡◌, List, ap}
use Rattle.std.specs.Prelude.{Option, None, Some}
use Rattle.std.specs.List.{slice_get}
use Rattle.std.specs.Option.{option_map}
use Rattle.std.proofs.lemmas.Option.{none-some, same_Some}
use Rattle.value_core.specs.Place.{Spot}
use Rattle.core_syntax.specs.declared.node.Node.{Node}
use Rattle.core_syntax.specs.declared.node_id.NodeId.{NodeId}
use Rattle.core_syntax.specs.declared.row.Row.{Row}
use Rattle.core_syntax.specs.Table.{node_at}

-- a row of that node
pub record IsRow (row : Option Row) (which : Node) : Type 0 where
  pub at : Spot
  pub found : row ≡ Some (record { node = which; at = at })

pub row_at : (nodes : List Row) (id : NodeId) (which : Node) → node_at nodes id ≡ Some which → IsRow (slice_get nodes id.index) which
row_at nodes id which = on (slice_get nodes id.index)
  where
    on : (found : Option Row) → option_map (λ row. row.node) found ≡ Some which → IsRow found which
    on None seen = absurd (none-some which seen)
    on (Some row) seen =
        let of_node : Node → Option Row = λ n. Some (record { node = n; at = row.at }) in
        record { at = row.at; found = ap of_node (same_Some row.node which seen) }
