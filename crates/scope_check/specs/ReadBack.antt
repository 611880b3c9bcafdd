-- A program read back: each top-level form from what it became.
use Rattle.std.specs.Prelude.{◌≡◌, ℕ, ◌+◌, Bool, true, false, List, [], ◌∷◌, length, Some}
use Rattle.std.specs.List.{slice_get, range_with_len}
use Rattle.value_core.specs.Place.{Spot}
use Rattle.core_syntax.specs.declared.node.Node.TheVariants.{Turn, Main}
use Rattle.core_syntax.specs.declared.node_id.NodeId.{NodeId}
use Rattle.core_syntax.specs.declared.step.Step.{Step}
use Rattle.core_syntax.specs.Table.{Table, node_at, steps_of}
use Rattle.sexpr_reader.specs.declared.form.Form.{Form}
use Rattle.resolved_forms.specs.declared.expr.Expr.{Expr}
use Rattle.resolved_forms.specs.declared.layout.Hidden.{Hidden}
use Rattle.resolved_forms.specs.declared.layout.Layout.{Layout}
use Rattle.resolved_forms.specs.declared.top.Reacting.{Reacting}
use Rattle.resolved_forms.specs.declared.top.Top.{Top}
use Rattle.resolved_forms.specs.declared.top.TopKind.{TopKind}
use Rattle.resolved_forms.specs.declared.top.TopKind.TheVariants.{Global, Value, Function, Behaviour}
use Rattle.scope_check.specs.Check.{tops_in, globals_in}
use Rattle.program_plan.specs.Frame.{Frame, frame_of, hidden_at, hidden_count}
use Rattle.program_plan.specs.Planned.{Reached, layout_in}
use Rattle.program_plan.specs.Reads.{Reads, Stands}

-- how much of a program comes from the forms before
pub record Before : Type 0 where
  pub globals : ℕ
  pub steps : ℕ
  pub functions : ℕ
  pub behaviours : ℕ

-- before the first form
abbrev pub nothing_before : Before
nothing_before = record { globals = 0; steps = 0; functions = 0; behaviours = 0 }

-- the same with one form more
abbrev pub behind : TopKind → Before → Before
behind (Global expr) before = record { globals = before.globals + 1; steps = before.steps + 1; functions = before.functions; behaviours = before.behaviours }
behind (Value expr) before = record { globals = before.globals; steps = before.steps + 1; functions = before.functions; behaviours = before.behaviours }
behind (Function params body) before = record { globals = before.globals; steps = before.steps; functions = before.functions + 1; behaviours = before.behaviours }
behind (Behaviour head body) before = record { globals = before.globals; steps = before.steps; functions = before.functions; behaviours = before.behaviours + 1 }

-- the steps of main
abbrev pub main_steps : Table → List Step
main_steps table = steps_of (node_at table.nodes table.main)

-- main's frame where so many globals are bound
abbrev pub frame_behind : Layout → ℕ → Frame
frame_behind layout globals = record { layout = layout; globals = range_with_len 0 globals; levels = []; base = 0 }

-- the next step of main evaluates the expression, where the globals before it are bound
pub record ReadsStep (table : Table) (layout : Layout) (before : Before) (expr : Expr) (binds : Bool) : Type 0 where
  pub node : NodeId
  pub step : slice_get (main_steps table) before.steps ≡ Some (record { node = node; binds = binds })
  pub reads : Reads table (frame_behind layout before.globals) node expr

-- the next function takes these hidden arguments and then its own, and the expression is its body
pub record ReadsFunction (table : Table) (layout : Layout) (before : Before) (hidden : Hidden) (at : Spot) (params : ℕ) (expr : Expr) : Type 0 where
  pub body : NodeId
  pub function : slice_get table.functions before.functions ≡ Some (record { at = at; takes = hidden_count hidden + params; body = body })
  pub reads : Reads table (frame_of layout hidden 0) body expr

-- the next behaviour takes these hidden arguments, then state and message, and the expression is what a turn evaluates
pub record ReadsBehaviour (table : Table) (layout : Layout) (before : Before) (hidden : Hidden) (head : Reacting) (expr : Expr) : Type 0 where
  pub turn : NodeId
  pub body : NodeId
  pub behaviour : slice_get table.behaviours before.behaviours
      ≡ Some (record { at = head.at; hidden = hidden_count hidden; state = head.state; message = head.message; body = turn })
  pub stands : Stands table head.at (Turn (hidden_count hidden + head.state + head.message) body) turn
  pub reads : Reads table (frame_of layout hidden 0) body expr

-- one form, behind those before it
abbrev pub ReadsTop : Table → Layout → Before → Spot → TopKind → Type 0
ReadsTop table layout before at (Global expr) = ReadsStep table layout before expr true
ReadsTop table layout before at (Value expr) = ReadsStep table layout before expr false
ReadsTop table layout before at (Function params expr) = ReadsFunction table layout before (hidden_at layout.functions before.functions) at params expr
ReadsTop table layout before at (Behaviour head expr) = ReadsBehaviour table layout before (hidden_at layout.behaviours before.behaviours) head expr

-- that is all of the program but the functions of loops
pub record IsAll (table : Table) (before : Before) : Type 0 where
  pub steps : length (main_steps table) ≡ before.steps
  pub functions : table.written ≡ before.functions
  pub behaviours : length table.behaviours ≡ before.behaviours

-- the forms one after another, and nothing else
abbrev pub ReadsTops : Table → Layout → Before → List Top → Type 0
ReadsTops table layout before [] = IsAll table before
ReadsTops table layout before (top ∷ tops) = ReadsTop table layout before top.at top.kind × ReadsTops table layout (behind top.kind before) tops

-- main's node and where it stands: at the beginning of the source
abbrev pub MainStands : Table → Type 0
MainStands table = Stands table (record { line = 1; column = 1 }) (Main (main_steps table)) table.main

-- The table is the forms: hidden arguments are the globals that a function or behaviour reaches, and for a loop the locals
-- too that it takes from round it; and with these each form is read back from its part of the table.
pub record ReadsBack (forms : List Form) (table : Table) : Type 0 where
  pub lists : List (List ℕ)
  pub reached : Reached (tops_in forms) (globals_in forms) lists
  pub main_stands : MainStands table
  pub tops_read : ReadsTops table (layout_in (tops_in forms) lists) nothing_before (tops_in forms)
