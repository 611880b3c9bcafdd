-- In what frames the nodes of a table are evaluated, and that their names and numbers of arguments fit.
use Rattle.std.specs.Prelude.{◌≡◌, ℕ, suc, ◌+◌, ◌==◌, nat_lt, Bool, true, false, ◌&&◌, if◌then◌else◌, List, [], ◌∷◌, length, map, All, Some, IsTrue, IfSome}
use Rattle.std.specs.List.{slice_get, list_all}
use Rattle.std.specs.Option.{option_map_or}
use Rattle.value_core.specs.declared.op.Op.{Op}
use Rattle.core_syntax.specs.declared.behaviour.Behaviour.{Behaviour}
use Rattle.core_syntax.specs.declared.node.Node.{Node}
use Rattle.core_syntax.specs.declared.node.Node.TheVariants as node
use Rattle.core_syntax.specs.declared.node_id.NodeId.{NodeId}
use Rattle.core_syntax.specs.declared.row.Row.{Row}
use Rattle.core_syntax.specs.declared.step.Step.{Step}
use Rattle.core_syntax.specs.Children.{children}
use Rattle.core_syntax.specs.Table.{Table, node_at}

-- the places are in a frame of so many values
abbrev pub all_below : ℕ → List ℕ → Bool
all_below size places = list_all (λ place. nat_lt place size) places

-- the function with that number takes so many arguments
abbrev pub function_takes : Table → ℕ → ℕ → Bool
function_takes table number count = option_map_or (λ f. f.takes == count) (slice_get table.functions number) false

-- a state of the behaviour with that number has so many values, the hidden ones too
abbrev pub state_takes : Table → ℕ → ℕ → Bool
state_takes table number count = option_map_or (λ b. b.hidden + b.state == count) (slice_get table.behaviours number) false

-- In a frame of so many values, each place that the node itself names is there, and a call, a primitive, a spawn or a
-- become has as many arguments as it takes.
abbrev pub fits : (Op → ℕ → Bool) → Table → ℕ → Node → Bool
fits takes table size (node.Local place) = nat_lt place size
fits takes table size (node.Call number hidden arguments) = all_below size hidden && function_takes table number (length hidden + length arguments)
fits takes table size (node.Op op arguments) = takes op (length arguments)
fits takes table size (node.Spawn number hidden arguments) = all_below size hidden && state_takes table number (length hidden + length arguments)
fits takes table size (node.Become number hidden arguments) = all_below size hidden && state_takes table number (length hidden + length arguments)
fits takes table size _ = true

-- the sizes of the frames of bound expressions, and of the body behind them: each one sees those before it
abbrev pub growing : ℕ → List NodeId → List ℕ
growing size [] = size ∷ []
growing size (id ∷ ids) = size ∷ growing (suc size) ids

-- the sizes of the frames of main's steps: each one sees what those before it bind
abbrev pub step_sizes : ℕ → List Step → List ℕ
step_sizes size [] = []
step_sizes size (step ∷ steps) = size ∷ step_sizes (if step.binds then suc size else size) steps

-- the sizes of the frames in which the children of a node are evaluated
abbrev pub child_sizes : ℕ → Node → List ℕ
child_sizes size (node.Let bound body) = growing size bound
child_sizes size (node.Turn takes body) = takes ∷ []
child_sizes size (node.Main steps) = step_sizes size steps
child_sizes size other = map (λ child. size) (children other)

-- these nodes are evaluated in frames of these sizes
abbrev pub HaveSizes : List ℕ → List NodeId → List ℕ → Type 0
HaveSizes sizes [] [] = Unit {0}
HaveSizes sizes [] (n ∷ ns) = ⊥
HaveSizes sizes (id ∷ ids) [] = ⊥
HaveSizes sizes (id ∷ ids) (n ∷ ns) = (slice_get sizes id.index ≡ Some n) × HaveSizes sizes ids ns

-- a node in a frame of that size fits, and so do the frames of its children
pub record NodeFits (takes : Op → ℕ → Bool) (table : Table) (sizes : List ℕ) (size : ℕ) (node : Node) : Type 0 where
  pub itself : IsTrue (fits takes table size node)
  pub inside : HaveSizes sizes (children node) (child_sizes size node)

-- the turn of a behaviour takes the values of its state, of its message, and the hidden ones
abbrev pub TakesAll : Behaviour → Node → Type 0
TakesAll behaviour (node.Turn takes body) = takes ≡ behaviour.hidden + behaviour.state + behaviour.message
TakesAll behaviour _ = ⊥

-- These are the sizes of the frames of the nodes. Main begins with no values, a function with its arguments, and a
-- behaviour with its state and message.
pub record AreSizes (takes : Op → ℕ → Bool) (table : Table) (sizes : List ℕ) : Type 0 where
  pub nodes : (k : ℕ) (row : Row) (size : ℕ) → slice_get table.nodes k ≡ Some row → slice_get sizes k ≡ Some size → NodeFits takes table sizes size row.node
  pub each : length sizes ≡ length table.nodes
  pub main : slice_get sizes table.main.index ≡ Some 0
  pub functions : All (λ f. slice_get sizes f.body.index ≡ Some f.takes) table.functions
  pub turns : All (λ b. IfSome (node_at table.nodes b.body) (TakesAll b)) table.behaviours

-- the nodes have frames in which each of them fits
pub record IsFitting (takes : Op → ℕ → Bool) (table : Table) : Type 0 where
  pub sizes : List ℕ
  pub are : AreSizes takes table sizes
