-- The program that top-level forms become.
use Rattle.std.specs.Prelude.{◌≡◌, ℕ, ◌+◌, Bool, true, false, List, [], ◌∷◌, ◌++◌, length, count_by, nat_lt, if◌then◌else◌, Option, Some, None}
use Rattle.std.specs.List.{range_with_len}
use Rattle.value_core.specs.Place.{Spot}
use Rattle.core_syntax.specs.declared.behaviour.Behaviour.{Behaviour}
use Rattle.core_syntax.specs.declared.function.Function.{Function}
use Rattle.core_syntax.specs.declared.node_id.NodeId.{NodeId}
use Rattle.core_syntax.specs.declared.step.Step.{Step}
use Rattle.core_syntax.specs.Limit.{node_limit}
use Rattle.core_syntax.specs.Table.{Table, finished}
use Rattle.plan_errors.specs.declared.error.PlanKind.TheVariants.{TooManyNodes}
use Rattle.plan_errors.specs.declared.error.PlanNo.{PlanNo}
use Rattle.plan_errors.specs.declared.error.PlanNo.TheVariants.{Memory, Refused}
use Rattle.resolved_forms.specs.declared.expr.Expr.{Expr}
use Rattle.resolved_forms.specs.declared.layout.Layout.{Layout}
use Rattle.resolved_forms.specs.declared.top.Reacting.{Reacting}
use Rattle.resolved_forms.specs.declared.top.Top.{Top}
use Rattle.resolved_forms.specs.declared.top.TopKind.{TopKind}
use Rattle.resolved_forms.specs.declared.top.TopKind.TheVariants.{Global, Value, Function as Defined, Behaviour as Reacts}
use Rattle.program_plan.specs.Emitted.{emitted, turn_of}
use Rattle.program_plan.specs.Frame.{Frame, frame_of, hidden_at, hidden_count}
use Rattle.program_plan.specs.Made.{Draft, Making, extended, answered}

-- what is made of the first forms: the nodes, the functions of the top level, the behaviours, and the steps of main
pub record Parts : Type 0 where
  pub draft : Draft
  pub functions : List Function
  pub behaviours : List Behaviour
  pub steps : List Step

abbrev pub no_parts : Parts
no_parts = record { draft = record { rows = []; loops = [] }; functions = []; behaviours = []; steps = [] }

-- main's frame: the globals that are bound so far
abbrev pub main_frame : Layout → List Step → Frame
main_frame layout steps = record { layout = layout; globals = range_with_len 0 (count_by (λ step. step.binds) steps); levels = []; base = 0 }

-- what the behaviour with that number makes
abbrev pub behaviour_making : Layout → ℕ → Reacting → Expr → Making NodeId
behaviour_making layout number head body =
    let hidden = hidden_at layout.behaviours number in
    turn_of head.at (hidden_count hidden + head.state + head.message) (emitted body (frame_of layout hidden 0))

-- what a top-level form makes behind these parts
abbrev pub top_making : Layout → Parts → TopKind → Making NodeId
top_making layout parts (Global expr) = emitted expr (main_frame layout parts.steps)
top_making layout parts (Value expr) = emitted expr (main_frame layout parts.steps)
top_making layout parts (Defined params body) = emitted body (frame_of layout (hidden_at layout.functions (length parts.functions)) 0)
top_making layout parts (Reacts head body) = behaviour_making layout (length parts.behaviours) head body

-- the parts with a form whose nodes are in the draft, with that root
abbrev pub with_step : Parts → Draft → NodeId → Bool → Parts
with_step parts draft root binds = record {
  draft = draft;
  functions = parts.functions;
  behaviours = parts.behaviours;
  steps = parts.steps ++ record { node = root; binds = binds } ∷ [];
}

abbrev pub with_root : Layout → Spot → TopKind → Parts → Draft → NodeId → Parts
with_root layout at (Global expr) parts draft root = with_step parts draft root true
with_root layout at (Value expr) parts draft root = with_step parts draft root false
with_root layout at (Defined params body) parts draft root = record {
  draft = draft;
  behaviours = parts.behaviours;
  steps = parts.steps;
  functions = parts.functions ++ record {
    at = at;
    takes = hidden_count (hidden_at layout.functions (length parts.functions)) + params;
    body = root;
  } ∷ [];
}
with_root layout at (Reacts head body) parts draft root = record {
  draft = draft;
  functions = parts.functions;
  steps = parts.steps;
  behaviours = parts.behaviours ++ record {
    at = head.at;
    hidden = hidden_count (hidden_at layout.behaviours (length parts.behaviours));
    state = head.state;
    message = head.message;
    body = root;
  } ∷ [];
}

-- the parts with one form more
abbrev pub with_top : Layout → Parts → Top → Parts
with_top layout parts top =
    let making = top_making layout parts top.kind in
    with_root layout top.at top.kind parts (extended making parts.draft) (answered making parts.draft)

abbrev pub with_tops : Layout → Parts → List Top → Parts
with_tops layout parts [] = parts
with_tops layout parts (top ∷ tops) = with_tops layout (with_top layout parts top) tops

-- the place of the first form up to and with which the nodes are too many
abbrev pub first_past_from : Layout → Parts → List Top → Option Spot
first_past_from layout parts [] = None
first_past_from layout parts (top ∷ tops) =
    if nat_lt node_limit (length (with_top layout parts top).draft.rows) then Some top.at
    else first_past_from layout (with_top layout parts top) tops

abbrev pub first_past : Layout → List Top → Option Spot
first_past layout tops = first_past_from layout no_parts tops

-- the functions are those of the top level, and then those of loops
abbrev pub program_of_parts : Parts → Table
program_of_parts parts =
    finished parts.draft.rows parts.steps (parts.functions ++ parts.draft.loops) (length parts.functions) parts.behaviours

abbrev pub program_of : Layout → List Top → Table
program_of layout tops = program_of_parts (with_tops layout no_parts tops)

-- a refusal for want of memory, or for too many nodes at a due place
abbrev pub RefusedAs : (Spot → Type 0) → PlanNo → Type 0
RefusedAs due Memory = Unit {0}
RefusedAs due (Refused kind at) = (kind ≡ TooManyNodes) × due at
