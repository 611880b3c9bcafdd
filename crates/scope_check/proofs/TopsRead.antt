-- Top-level forms are read back from the program that they become.
use Rattle.std.proofs.Common.{◌≡◌, ◌∙◌, ℕ, ◌+◌, Bool, true, false, List, [], ◌∷◌, ◌++◌, length, refl, sym, ap, subst, arith, length-append}
use Rattle.std.specs.Prelude.{Some, count_by, cond}
use Rattle.std.specs.List.{slice_get}
use Rattle.std.specs.Option.{option_map}
use Rattle.std.proofs.lemmas.List.Sums.{sum_by-append}
use Rattle.value_core.specs.Place.{Spot}
use Rattle.core_syntax.specs.declared.behaviour.Behaviour.{Behaviour}
use Rattle.core_syntax.specs.declared.function.Function.{Function}
use Rattle.core_syntax.specs.declared.node.Node.TheVariants.{Turn, Main}
use Rattle.core_syntax.specs.declared.node_id.NodeId.{NodeId}
use Rattle.core_syntax.specs.declared.row.Row.{Row}
use Rattle.core_syntax.specs.declared.step.Step.{Step}
use Rattle.core_syntax.specs.Table.{Table, main_row, steps_of}
use Rattle.core_syntax.proofs.Appends.{slice_get-append_left, slice_get-push}
use Rattle.core_syntax.proofs.Tables.{node_at-main}
use Rattle.resolved_forms.specs.declared.expr.Expr.{Expr}
use Rattle.resolved_forms.specs.declared.layout.Layout.{Layout}
use Rattle.resolved_forms.specs.declared.top.Reacting.{Reacting}
use Rattle.resolved_forms.specs.declared.top.Top.{Top}
use Rattle.resolved_forms.specs.declared.top.TopKind.{TopKind}
use Rattle.resolved_forms.specs.declared.top.TopKind.TheVariants.{Global, Value, Function as Defined, Behaviour as Reacts}
use Rattle.program_plan.specs.Emitted.{emitted, turn_of}
use Rattle.program_plan.specs.Frame.{Frame, frame_of, hidden_at, hidden_count}
use Rattle.program_plan.specs.Lowered.{Parts, top_making, with_root, with_top, with_tops, program_of_parts}
use Rattle.program_plan.specs.Made.{Draft, Making, node, extended, answered}
use Rattle.scope_check.specs.ReadBack.{Before, MainStands, behind, main_steps, frame_behind, ReadsStep, ReadsFunction, ReadsBehaviour, ReadsTop, ReadsTops}
use Rattle.program_plan.specs.Reads.{Reads, Stands}
use Rattle.program_plan.proofs.Giving.{Gives, gives_node, gives_then, gives_weaker}
use Rattle.program_plan.proofs.Grown.{IsFirst, pushed_there, Grew, grew_all, rows_there, later_loops}
use Rattle.program_plan.proofs.Holding.{HasRows, HaveNumbers}
use Rattle.resolved_forms.proofs.LoopNumbers.{loop_numbers}
use Rattle.scope_check.proofs.NumberedForms.{kind_numbers, top_numbers}
use Rattle.program_plan.proofs.ReadingBack.{is_read}

-- how much there is
abbrev pub before_of : Parts → Before
before_of parts = record {
  globals = count_by (λ step. step.binds) parts.steps;
  steps = length parts.steps;
  functions = length parts.functions;
  behaviours = length parts.behaviours;
}

main_steps_are : (final : Parts) → main_steps (program_of_parts final) ≡ final.steps
main_steps_are final = ap steps_of (node_at-main final.draft.rows final.steps)

-- main is there
pub main_there : (final : Parts) → MainStands (program_of_parts final)
main_there final =
    let steps_are = main_steps_are final in
    record {
      node_is = node_at-main final.draft.rows final.steps ∙ ap (λ (steps : List Step). Some (Main steps)) (sym steps_are);
      place_is = ap (option_map (λ (r : Row). r.at)) (slice_get-push final.draft.rows (main_row final.steps));
    }

step_there : (parts final : Parts) (root : NodeId) (binds : Bool) → IsFirst (parts.steps ++ record { node = root; binds = binds } ∷ []) final.steps
    → slice_get (main_steps (program_of_parts final)) (length parts.steps) ≡ Some (record { node = root; binds = binds })
step_there parts final root binds first = ap (λ l. slice_get l (length parts.steps)) (main_steps_are final) ∙ pushed_there parts.steps (record { node = root; binds = binds }) final.steps first

-- the turn of a behaviour
record TurnRead (table : Table) (at : Spot) (takes : ℕ) (frame : Frame) (expr : Expr) (turn : NodeId) : Type 0 where
  body : NodeId
  stands : Stands table at (Turn takes body) turn
  reads : Reads table frame body expr

gives_turn : (table : Table) (at : Spot) (takes : ℕ) (frame : Frame) (expr : Expr) → Gives table (turn_of at takes (emitted expr frame)) (loop_numbers expr) (TurnRead table at takes frame expr)
unfolding turn_of
gives_turn table at takes frame expr = gives_then (λ id. node at (Turn takes id)) (is_read table expr frame)
    (λ id reads. gives_weaker (λ turn stands. record { body = id; stands = stands; reads = reads }) (gives_node table at (Turn takes id)))

module _ (layout : Layout) (parts final : Parts) (others : List ℕ) (functions : List Function) where
  abbrev table : Table
  table = program_of_parts final

  -- where what is made stands in the table, with the loops in it
  record StandsIn (making : Making NodeId) (numbers : List ℕ) : Type 0 where
    rows : HasRows table.nodes (length parts.draft.rows) (making (length parts.draft.rows)).rows
    loops : HaveNumbers table.functions (numbers ++ others) ((making (length parts.draft.rows)).loops ++ functions)

  step_read : (expr : Expr) (binds : Bool) → let making = emitted expr (frame_behind layout (count_by (λ step. step.binds) parts.steps)) in
      IsFirst (parts.steps ++ record { node = answered making parts.draft; binds = binds } ∷ []) final.steps
      → StandsIn making (loop_numbers expr) → ReadsStep table layout (before_of parts) expr binds × HaveNumbers table.functions others functions
  unfolding answered
  step_read expr binds first there =
      let frame = frame_behind layout (count_by (λ step. step.binds) parts.steps) in
      let root = (emitted expr frame (length parts.draft.rows)).answer in
      let given = (is_read table expr frame).gives (length parts.draft.rows) others functions there.rows there.loops in
      (record { node = root; step = step_there parts final root binds first; reads = given.0 }, given.1)

  function_read : (at : Spot) (params : ℕ) (expr : Expr) → let hidden = hidden_at layout.functions (length parts.functions) in let making = emitted expr (frame_of layout hidden 0) in
      IsFirst (parts.functions ++ record { at = at; takes = hidden_count hidden + params; body = answered making parts.draft } ∷ []) final.functions
      → StandsIn making (loop_numbers expr) → ReadsFunction table layout (before_of parts) hidden at params expr × HaveNumbers table.functions others functions
  unfolding answered
  function_read at params expr first there =
      let hidden = hidden_at layout.functions (length parts.functions) in
      let frame = frame_of layout hidden 0 in
      let root = (emitted expr frame (length parts.draft.rows)).answer in
      let function : Function = record { at = at; takes = hidden_count hidden + params; body = root } in
      let given = (is_read table expr frame).gives (length parts.draft.rows) others functions there.rows there.loops in
      let here = pushed_there parts.functions function final.functions first in
      (record { body = root; function = slice_get-append_left final.functions final.draft.loops (length parts.functions) function here; reads = given.0 }, given.1)

  behaviour_read : (head : Reacting) (expr : Expr) → let hidden = hidden_at layout.behaviours (length parts.behaviours) in
      let making = turn_of head.at (hidden_count hidden + head.state + head.message) (emitted expr (frame_of layout hidden 0)) in
      IsFirst (parts.behaviours ++ record { at = head.at; hidden = hidden_count hidden; state = head.state; message = head.message; body = answered making parts.draft } ∷ []) final.behaviours
      → StandsIn making (loop_numbers expr) → ReadsBehaviour table layout (before_of parts) hidden head expr × HaveNumbers table.functions others functions
  unfolding answered
  behaviour_read head expr first there =
      let hidden = hidden_at layout.behaviours (length parts.behaviours) in
      let frame = frame_of layout hidden 0 in
      let takes = hidden_count hidden + head.state + head.message in
      let root = (turn_of head.at takes (emitted expr frame) (length parts.draft.rows)).answer in
      let behaviour : Behaviour = record { at = head.at; hidden = hidden_count hidden; state = head.state; message = head.message; body = root } in
      let given = (gives_turn table head.at takes frame expr).gives (length parts.draft.rows) others functions there.rows there.loops in (
        record {
          turn = root;
          body = given.0.body;
          behaviour = pushed_there parts.behaviours behaviour final.behaviours first;
          stands = given.0.stands;
          reads = given.0.reads;
        },
        given.1,
      )

  root_read : (at : Spot) (kind : TopKind) → let making = top_making layout parts kind in Grew (with_root layout at kind parts (extended making parts.draft) (answered making parts.draft)) final
      → StandsIn making (kind_numbers kind) → ReadsTop table layout (before_of parts) at kind × HaveNumbers table.functions others functions
  root_read at (Global expr) grew there = step_read expr true grew.steps there
  root_read at (Value expr) grew there = step_read expr false grew.steps there
  root_read at (Defined params expr) grew there = function_read at params expr grew.functions there
  root_read at (Reacts head expr) grew there = behaviour_read head expr grew.behaviours there

-- one form more
one_more : {X : Type 0} (xs : List X) (x : X) → length (xs ++ x ∷ []) ≡ length xs + 1
one_more xs x = length-append xs (x ∷ [])

binding_more : (steps : List Step) (root : NodeId) → count_by (λ step. step.binds) (steps ++ record { node = root; binds = true } ∷ []) ≡ count_by (λ step. step.binds) steps + 1
binding_more steps root = sum_by-append (λ step. cond step.binds 1 0) steps (record { node = root; binds = true } ∷ [])

dropping_more : (steps : List Step) (root : NodeId) → count_by (λ step. step.binds) (steps ++ record { node = root; binds = false } ∷ []) ≡ count_by (λ step. step.binds) steps
dropping_more steps root =
    let none : count_by (λ step. step.binds) steps + 0 ≡ count_by (λ step. step.binds) steps = omega arith in
    sum_by-append (λ step. cond step.binds 1 0) steps (record { node = root; binds = false } ∷ []) ∙ none

-- the function and the behaviour that a form becomes
abbrev function_made : Layout → Spot → ℕ → Parts → NodeId → Function
function_made layout at params parts root = record { at = at; takes = hidden_count (hidden_at layout.functions (length parts.functions)) + params; body = root }

abbrev behaviour_made : Layout → Reacting → Parts → NodeId → Behaviour
behaviour_made layout head parts root = record { at = head.at; hidden = hidden_count (hidden_at layout.behaviours (length parts.behaviours)); state = head.state; message = head.message; body = root }

before_with : (layout : Layout) (at : Spot) (kind : TopKind) (parts : Parts) (draft : Draft) (root : NodeId) → before_of (with_root layout at kind parts draft root) ≡ behind kind (before_of parts)
before_with layout at (Global expr) parts draft root = λ i. record {
  globals = binding_more parts.steps root i;
  steps = one_more parts.steps (record { node = root; binds = true }) i;
  functions = length parts.functions;
  behaviours = length parts.behaviours;
}
before_with layout at (Value expr) parts draft root = λ i. record {
  globals = dropping_more parts.steps root i;
  steps = one_more parts.steps (record { node = root; binds = false }) i;
  functions = length parts.functions;
  behaviours = length parts.behaviours;
}
before_with layout at (Defined params body) parts draft root = λ i. record {
  globals = count_by (λ step. step.binds) parts.steps;
  steps = length parts.steps;
  functions = one_more parts.functions (function_made layout at params parts root) i;
  behaviours = length parts.behaviours;
}
before_with layout at (Reacts head body) parts draft root = λ i. record {
  globals = count_by (λ step. step.binds) parts.steps;
  steps = length parts.steps;
  functions = length parts.functions;
  behaviours = one_more parts.behaviours (behaviour_made layout head parts root) i;
}

-- the forms behind some parts are read back from the program that they become with them
pub tops_read : (layout : Layout) (parts : Parts) (tops : List Top) → let table = program_of_parts (with_tops layout parts tops) in
    HaveNumbers table.functions (top_numbers tops) (later_loops layout parts tops) → ReadsTops table layout (before_of parts) tops
tops_read layout parts [] numbers = record { steps = ap length (main_steps_are parts); functions = refl; behaviours = refl }
tops_read layout parts (top ∷ tops) numbers =
    let mid = with_top layout parts top in
    let final = with_tops layout mid tops in
    let table = program_of_parts final in
    let grew = grew_all layout mid tops in
    let read = root_read layout parts final (top_numbers tops) (later_loops layout mid tops) top.at top.kind grew (record { rows = rows_there layout parts final top grew.rows; loops = numbers }) in
    (read.0, subst (λ (b : Before). ReadsTops table layout b tops) (before_with layout top.at top.kind parts _ _) (tops_read layout mid tops read.1))
