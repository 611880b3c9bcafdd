-- What a reader of a well-formed table needs, beside the clauses of `Program`.
use Rattle.std.proofs.Common.{◌≡◌, ◌∙◌, ℕ, ◌<◌, ◌≤◌, List, length, refl, ap, arith}
use Rattle.std.specs.Prelude.{Option, None, Some}
use Rattle.std.specs.List.{slice_get}
use Rattle.std.specs.Option.{option_map}
use Rattle.std.proofs.lemmas.Option.{none-some, same_Some, slice_get_within}
use Rattle.std.proofs.lemmas.List.Elements.{All-weaker}
use Rattle.value_core.specs.Place.{Spot}
use Rattle.core_syntax.specs.declared.node.Node.{Node}
use Rattle.core_syntax.specs.declared.node_id.NodeId.{NodeId}
use Rattle.core_syntax.specs.declared.row.Row.{Row}
use Rattle.core_syntax.specs.Children.{children}
use Rattle.core_syntax.specs.Table.{node_at, place_at}
use Rattle.core_syntax.specs.WellFormed.{IsBelow, ChildrenBelow}

-- the node and the place of an id are its row
pub slice_get-from_parts : (nodes : List Row) (id : NodeId) (node : Node) (place : Spot) → node_at nodes id ≡ Some node → place_at nodes id ≡ Some place → slice_get nodes id.index ≡ Some (record { node = node; at = place })
slice_get-from_parts nodes id node place = on (slice_get nodes id.index)
  where
    on : (found : Option Row) → option_map (λ row. row.node) found ≡ Some node → option_map (λ row. row.at) found ≡ Some place → found ≡ Some (record { node = node; at = place })
    on None a b = absurd (none-some node a)
    on (Some row) a b =
        let of_node : Node → Option Row = λ n. Some (record { node = n; at = row.at }) in
        let of_place : Spot → Option Row = λ p. Some (record { node = node; at = p }) in
        ap of_node (same_Some row.node node a) ∙ ap of_place (same_Some row.at place b)

-- whose node is known is in the table
pub node_at-within : (nodes : List Row) (id : NodeId) (node : Node) → node_at nodes id ≡ Some node → id.index < length nodes
node_at-within nodes id node = on (slice_get nodes id.index) refl
  where
    on : (found : Option Row) → slice_get nodes id.index ≡ found → option_map (λ row. row.node) found ≡ Some node → id.index < length nodes
    on None is a = absurd (none-some node a)
    on (Some row) is a = slice_get_within nodes id.index row is

-- children that are among the first m are among the first n, where these are no fewer
pub ChildrenBelow-weaker : (m n : ℕ) (node : Node) → m ≤ n → ChildrenBelow m node → ChildrenBelow n node
ChildrenBelow-weaker m n node more below = All-weaker (IsBelow m) (IsBelow n) (λ id here. omega arith) (children node) below
