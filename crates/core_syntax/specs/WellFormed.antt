-- What holds of the table of every program.
use Rattle.std.specs.Prelude.{◌≡◌, ℕ, ◌+◌, ◌<◌, ◌≤◌, List, length, Some, All, IsSomeAnd}
use Rattle.std.specs.List.{slice_get}
use Rattle.core_syntax.specs.declared.behaviour.Behaviour.{Behaviour}
use Rattle.core_syntax.specs.declared.function.Function.{Function}
use Rattle.core_syntax.specs.declared.node.Node.{Node}
use Rattle.core_syntax.specs.declared.node.Node.TheVariants.{Turn, Main}
use Rattle.core_syntax.specs.declared.node_id.NodeId.{NodeId}
use Rattle.core_syntax.specs.declared.row.Row.{Row}
use Rattle.core_syntax.specs.declared.step.Step.{Step}
use Rattle.core_syntax.specs.Children.{children}
use Rattle.core_syntax.specs.Limit.{counted, node_limit}
use Rattle.core_syntax.specs.Numbers.{functions_named, behaviours_named}
use Rattle.core_syntax.specs.Table.{Table, node_at}

-- the node is one of the first n
abbrev pub IsBelow : ℕ → NodeId → Type 0
IsBelow n id = id.index < n

-- each child of the node is one of the first n
abbrev pub ChildrenBelow : ℕ → Node → Type 0
ChildrenBelow n node = All (IsBelow n) (children node)

-- children stand before parents
abbrev pub ChildrenFirst : List Row → Type 0
ChildrenFirst nodes = (k : ℕ) (row : Row) → slice_get nodes k ≡ Some row → ChildrenBelow k row.node

-- a table that is being built: children stand before parents, and so many nodes count, at most 1,000,000
pub record IsBuilt (nodes : List Row) (count : ℕ) : Type 0 where
  pub children_first : ChildrenFirst nodes
  pub counts : count ≡ counted nodes
  pub within : count ≤ node_limit

-- each function that the node names is one of the first n, and so for behaviours
abbrev pub FunctionsBelow : ℕ → Node → Type 0
FunctionsBelow n node = All (λ number. number < n) (functions_named node)

abbrev pub BehavioursBelow : ℕ → Node → Type 0
BehavioursBelow n node = All (λ number. number < n) (behaviours_named node)

abbrev pub IsTurn : Node → Type 0
IsTurn (Turn takes body) = Unit {0}
IsTurn _ = ⊥

abbrev pub IsMain : Node → Type 0
IsMain (Main steps) = Unit {0}
IsMain _ = ⊥

-- the node with this id is a turn
abbrev pub IsTurnAt : List Row → NodeId → Type 0
IsTurnAt nodes id = IsSomeAnd (node_at nodes id) IsTurn

-- with these steps, functions and behaviours the nodes make a program: all that is named is there
pub record CanFinish (nodes : List Row) (steps : List Step) (functions : List Function) (written : ℕ) (behaviours : List Behaviour) : Type 0 where
  pub steps_there : All (λ step. IsBelow (length nodes) step.node) steps
  pub bodies_there : All (λ function. IsBelow (length nodes) function.body) functions
  pub turns_there : All (λ behaviour. IsTurnAt nodes behaviour.body) behaviours
  pub functions_there : All (λ row. FunctionsBelow (length functions) row.node) nodes
  pub behaviours_there : All (λ row. BehavioursBelow (length behaviours) row.node) nodes
  pub written_there : written ≤ length functions

-- children stand before parents, at most 1,000,000 nodes count, all that is named is there, each behaviour's body is a
-- turn, and main is the last node
pub record IsWellFormed (table : Table) : Type 0 where
  pub children_first : ChildrenFirst table.nodes
  pub within : counted table.nodes ≤ node_limit
  pub bodies_there : All (λ function. IsBelow (length table.nodes) function.body) table.functions
  pub turns_there : All (λ behaviour. IsTurnAt table.nodes behaviour.body) table.behaviours
  pub functions_there : All (λ row. FunctionsBelow (length table.functions) row.node) table.nodes
  pub behaviours_there : All (λ row. BehavioursBelow (length table.behaviours) row.node) table.nodes
  pub written_there : table.written ≤ length table.functions
  pub last : table.main.index + 1 ≡ length table.nodes
  pub is_main : IsSomeAnd (node_at table.nodes table.main) IsMain
