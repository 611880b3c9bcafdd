-- The table of a program: what its type means.
use Rattle.std.specs.Prelude.{ℕ, List, [], ◌∷◌, ◌++◌, length, Option, Some, count_by}
use Rattle.std.specs.List.{slice_get}
use Rattle.std.specs.Option.{option_map}
use Rattle.value_core.specs.Place.{Spot}
use Rattle.core_syntax.specs.declared.behaviour.Behaviour.{Behaviour}
use Rattle.core_syntax.specs.declared.function.Function.{Function}
use Rattle.core_syntax.specs.declared.node.Node.{Node}
use Rattle.core_syntax.specs.declared.node.Node.TheVariants.{Main}
use Rattle.core_syntax.specs.declared.node_id.NodeId.{NodeId}
use Rattle.core_syntax.specs.declared.row.Row.{Row}
use Rattle.core_syntax.specs.declared.step.Step.{Step}

-- the nodes with their places; the functions, of which so many first ones are written in the source; the behaviours;
-- and which node is main
pub record Table : Type 0 where
  pub nodes : List Row
  pub functions : List Function
  pub written : ℕ
  pub behaviours : List Behaviour
  pub main : NodeId

-- the node with this id, and its place, where it is in the table
abbrev pub node_at : List Row → NodeId → Option Node
node_at nodes id = option_map (λ row. row.node) (slice_get nodes id.index)

abbrev pub place_at : List Row → NodeId → Option Spot
place_at nodes id = option_map (λ row. row.at) (slice_get nodes id.index)

-- the steps of a main
abbrev pub steps_of : Option Node → List Step
steps_of (Some (Main steps)) = steps
steps_of _ = []

-- the globals are the steps of main that bind
abbrev pub global_count : Table → ℕ
global_count table = count_by (λ step. step.binds) (steps_of (node_at table.nodes table.main))

-- main stands at the beginning of the source
abbrev pub main_row : List Step → Row
main_row steps = record { node = Main steps; at = record { line = 1; column = 1 } }

-- the table of the nodes, followed by the main of these steps
abbrev pub finished : List Row → List Step → List Function → ℕ → List Behaviour → Table
finished nodes steps functions written behaviours = record {
  nodes = nodes ++ main_row steps ∷ [];
  functions = functions;
  written = written;
  behaviours = behaviours;
  main = record { index = length nodes };
}
