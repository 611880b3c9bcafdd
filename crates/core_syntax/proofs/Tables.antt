-- A table of nodes to which more are pushed, and the table that is finished.
use Rattle.std.proofs.Common.{◌≡◌, ◌≢◌, ℕ, ◌+◌, ◌≤◌, Bool, true, false, List, [], ◌∷◌, ◌++◌, length, inl, inr, refl, sym, ap, subst, arith, length-append}
use Rattle.std.specs.Prelude.{Option, None, Some, IsSomeAnd, count_by}
use Rattle.std.specs.Int.{from_bool}
use Rattle.std.specs.List.{slice_get}
use Rattle.std.specs.Option.{option_map}
use Rattle.std.proofs.lemmas.Option.{none-some}
use Rattle.std.proofs.lemmas.List.Elements.{All-weaker, All-map, All-push, All-nil}
use Rattle.std.proofs.lemmas.List.Sums.{sum_by-append}
use Rattle.core_syntax.specs.declared.behaviour.Behaviour.{Behaviour}
use Rattle.core_syntax.specs.declared.function.Function.{Function}
use Rattle.core_syntax.specs.declared.node.Node.{Node}
use Rattle.core_syntax.specs.declared.node.Node.TheVariants.{Main}
use Rattle.core_syntax.specs.declared.node_id.NodeId.{NodeId}
use Rattle.core_syntax.specs.declared.row.Row.{Row}
use Rattle.core_syntax.specs.declared.step.Step.{Step}
use Rattle.core_syntax.specs.Limit.{counts, counted, node_limit}
use Rattle.core_syntax.specs.Table.{node_at, steps_of, main_row, finished, global_count}
use Rattle.core_syntax.specs.WellFormed.{IsBelow, ChildrenBelow, ChildrenFirst, IsBuilt, IsTurn, IsTurnAt, FunctionsBelow, BehavioursBelow, CanFinish, IsWellFormed}
use Rattle.core_syntax.proofs.Appends.{slice_get-append_left, slice_get-push, slice_get-push_cases}

-- one node more, whose children are there
pub ChildrenFirst-push : (nodes : List Row) (row : Row) → ChildrenFirst nodes → ChildrenBelow (length nodes) row.node → ChildrenFirst (nodes ++ row ∷ [])
ChildrenFirst-push nodes row first below k found is =
    elim (slice_get-push_cases nodes row k found is) [
      | inl there ↦ first k found there
      | inr last ↦ let P : Row → Type 0 = λ r. ChildrenBelow k r.node in
          let Q : ℕ → Type 0 = λ n. ChildrenBelow n row.node in
          subst P (sym last.1) (subst Q (sym last.0) below)
    ]

-- one node more counts, or doesn't
pub counted-push : (nodes : List Row) (row : Row) → counted (nodes ++ row ∷ []) ≡ counted nodes + counted (row ∷ [])
counted-push nodes row = sum_by-append _ nodes (row ∷ [])

pub IsBuilt-push : (nodes all : List Row) (row : Row) (count more : ℕ) → all ≡ nodes ++ row ∷ [] → IsBuilt nodes count → count ≢ node_limit → more ≡ from_bool (counts row.node) → ChildrenBelow (length nodes) row.node → IsBuilt all (count + more)
IsBuilt-push nodes all row count more e built room is below = let P : List Row → Type 0 = λ l. IsBuilt l (count + more) in subst P (sym e) (record {
  children_first = ChildrenFirst-push nodes row built.children_first below;
  counts = let s = counted-push nodes row in grind (arith, s, built.counts);
  within = on (counts row.node) is;
})
  where
    on : (b : Bool) → more ≡ from_bool b → count + more ≤ node_limit
    on true is = let w = built.within in omega arith
    on false is = let w = built.within in omega arith

-- a main doesn't
pub counted-push_main : (nodes : List Row) (steps : List Step) → counted (nodes ++ main_row steps ∷ []) ≡ counted nodes
counted-push_main nodes steps = let e = counted-push nodes (main_row steps) in omega arith

-- a node that is there stays
pub node_at-append : (nodes more : List Row) (id : NodeId) (node : Node) → node_at nodes id ≡ Some node → node_at (nodes ++ more) id ≡ Some node
node_at-append nodes more id node = on (slice_get nodes id.index) refl
  where
    on : (found : Option Row) → slice_get nodes id.index ≡ found → option_map (λ row. row.node) found ≡ Some node → node_at (nodes ++ more) id ≡ Some node
    on None is e = absurd (none-some node e)
    on (Some row) is e = rw (slice_get-append_left nodes more id.index row is) e

-- main is the last one
pub node_at-main : (nodes : List Row) (steps : List Step) → node_at (nodes ++ main_row steps ∷ []) (record { index = length nodes }) ≡ Some (Main steps)
node_at-main nodes steps = rw (slice_get-push nodes (main_row steps)) refl

pub IsTurnAt-append : (nodes more : List Row) (id : NodeId) → IsTurnAt nodes id → IsTurnAt (nodes ++ more) id
IsTurnAt-append nodes more id = on (node_at nodes id) refl
  where
    on : (found : Option Node) → node_at nodes id ≡ found → IsSomeAnd found IsTurn → IsTurnAt (nodes ++ more) id
    on None is turn = absurd turn
    on (Some node) is turn = rw (node_at-append nodes more id node is) turn

-- the globals of what is finished are its steps that bind
pub global_count-finished : (nodes : List Row) (steps : List Step) (functions : List Function) (written : ℕ) (behaviours : List Behaviour) → global_count (finished nodes steps functions written behaviours) ≡ count_by (λ step. step.binds) steps
global_count-finished nodes steps functions written behaviours = ap (λ node. count_by (λ step. step.binds) (steps_of node)) (node_at-main nodes steps)

-- what is finished is well formed
pub finished-well_formed : (nodes : List Row) (steps : List Step) (functions : List Function) (written : ℕ) (behaviours : List Behaviour) → ChildrenFirst nodes → counted nodes ≤ node_limit → CanFinish nodes steps functions written behaviours → IsWellFormed (finished nodes steps functions written behaviours)
finished-well_formed nodes steps functions written behaviours first within can = record {
  children_first = ChildrenFirst-push nodes (main_row steps) first (All-map (IsBelow (length nodes)) (λ step. step.node) steps can.steps_there);
  within = let e = counted-push_main nodes steps in omega arith;
  bodies_there = All-weaker _ _ (λ function below. later function.body below) functions can.bodies_there;
  turns_there = All-weaker _ _ (λ behaviour turn. IsTurnAt-append nodes (main_row steps ∷ []) behaviour.body turn) behaviours can.turns_there;
  functions_there = All-push (λ row. FunctionsBelow (length functions) row.node) nodes (main_row steps) can.functions_there (All-nil _);
  behaviours_there = All-push (λ row. BehavioursBelow (length behaviours) row.node) nodes (main_row steps) can.behaviours_there (All-nil _);
  written_there = can.written_there;
  last = sym longer;
  is_main = rw (node_at-main nodes steps) tt;
}
  where
    longer : length (nodes ++ main_row steps ∷ []) ≡ length nodes + 1
    longer = length-append nodes (main_row steps ∷ [])

    later : (id : NodeId) → IsBelow (length nodes) id → IsBelow (length (nodes ++ main_row steps ∷ [])) id
    later id below = omega (arith, longer)
