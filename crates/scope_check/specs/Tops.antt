-- What the top-level forms come to.
use Rattle.std.specs.Prelude.{ℕ, false, true, List, [], ◌∷◌, ◌++◌, length, None, Some}
use Rattle.value_core.specs.Place.{Spot}
use Rattle.sugar.specs.declared.core_form.Core.{Core}
use Rattle.scope_names.specs.declared.definition.Definition.{Definition}
use Rattle.scope_refusals.specs.declared.kind.ScopeKind.TheVariants.{BadForm}
use Rattle.scope_refusals.specs.declared.refusal.Refusal.{Refusal}
use Rattle.scope_check.specs.declared.stand.Stand.{Stand}
use Rattle.resolved_forms.specs.declared.top.Top.{Top}
use Rattle.resolved_forms.specs.declared.top.TopKind.{TopKind}
use Rattle.resolved_forms.specs.declared.top.TopKind.TheVariants.{Global as global_kind, Value as value_kind, Function as function_kind, Behaviour as behaviour_kind}
use Rattle.resolved_forms.specs.FormsInRange.{functions_behind}
use Rattle.scope_check.specs.Heads.{bound_name, checked_name}
use Rattle.scope_check.specs.Parts.{body}
use Rattle.scope_check.specs.Resolved.{Resolved, Bound, Meaning, nil_at, refusal}
use Rattle.scope_check.specs.Scope.{Scope, binding}
use Rattle.scope_names.specs.Shapes.{Shape, Function, Behaviour, Global, Value, Malformed, Reaction, shape_of}
use Rattle.scope_check.specs.Value.{meaning, meanings}

-- a form, the number of the next loop, and what is wrong
pub record TopResolved : Type 0 where
  pub top : Top
  pub loops : ℕ
  pub refusals : List Refusal

pub record TopsResolved : Type 0 where
  pub tops : List Top
  pub loops : ℕ
  pub refusals : List Refusal

abbrev pub top_at : Spot → TopKind → Top
top_at at kind = record { at = at; kind = kind }

-- where main and the bodies of behaviours stand: nothing is called by recur
abbrev pub outside : Stand
outside = record { target = None; tail = false }

-- where the body of a function stands
abbrev pub function_stand : ℕ → ℕ → Stand
function_stand number takes = record { target = Some (record { number = number; takes = takes }); tail = true }

abbrev pub top_scope : List Definition → Stand → Scope
top_scope definitions stand = record { definitions = definitions; locals = []; stand = stand }

abbrev pub one_named : List ℕ → Resolved → Bound → Bound
one_named name checked rest = record { exprs = []; names = name ∷ rest.names; loops = rest.loops; refusals = checked.refusals ++ rest.refusals }

-- parameters are locals; of equal names the later prevails
abbrev pub parameters : List Meaning → Scope → ℕ → Bound
parameters [] scope loops = record { exprs = []; names = []; loops = loops; refusals = [] }
parameters (p ∷ ps) scope loops =
    let checked = checked_name p.name p scope loops in
    one_named (bound_name p.name) checked (parameters ps (binding (bound_name p.name ∷ []) scope) checked.loops)

abbrev pub made_top : Spot → TopKind → List Refusal → Resolved → TopResolved
made_top at kind refusals inner = record { top = top_at at kind; loops = inner.loops; refusals = refusals ++ inner.refusals }

abbrev pub function_top : Spot → ℕ → List Core → List Core → List Definition → ℕ → TopResolved
function_top at number params parts definitions loops =
    let scope = top_scope definitions (function_stand number (length params)) in
    let ps = parameters (meanings params) scope loops in
    let inner = body at (meanings parts) (binding ps.names scope) ps.loops in
    made_top at (function_kind (length params) inner.expr) ps.refusals inner

abbrev pub behaviour_top : Spot → Reaction → List Definition → ℕ → TopResolved
behaviour_top at reaction definitions loops =
    let scope = top_scope definitions outside in
    let state = parameters (meanings reaction.state) scope loops in
    let message = parameters (meanings reaction.message) (binding state.names scope) state.loops in
    let inner = body reaction.at (meanings reaction.body) (binding message.names (binding state.names scope)) message.loops in
    made_top at (behaviour_kind (record { at = reaction.at; state = length reaction.state; message = length reaction.message }) inner.expr) (state.refusals ++ message.refusals) inner

abbrev pub global_top : Spot → Core → List Definition → ℕ → TopResolved
global_top at value definitions loops =
    let inner = (meaning value).value (top_scope definitions outside) loops in
    made_top at (global_kind inner.expr) [] inner

abbrev pub value_top : Spot → Core → List Definition → ℕ → TopResolved
value_top at value definitions loops =
    let inner = (meaning value).value (top_scope definitions outside) loops in
    made_top at (value_kind inner.expr) [] inner

abbrev pub malformed_top : Spot → ℕ → TopResolved
malformed_top at loops = record { top = top_at at (value_kind (nil_at at)); loops = loops; refusals = refusal BadForm at ∷ [] }

abbrev pub shaped_top : Shape → Core → ℕ → List Definition → ℕ → TopResolved
shaped_top (Function name params parts) form number definitions loops = function_top form.at number params parts definitions loops
shaped_top (Behaviour name reaction) form number definitions loops = behaviour_top form.at reaction definitions loops
shaped_top (Global name value) form number definitions loops = global_top form.at value definitions loops
shaped_top Value form number definitions loops = value_top form.at form definitions loops
shaped_top Malformed form number definitions loops = malformed_top form.at loops

-- a form, with the number of the next function
abbrev pub top_of : Core → ℕ → List Definition → ℕ → TopResolved
top_of form number definitions loops = shaped_top (shape_of form) form number definitions loops

abbrev pub first_top : TopResolved → TopsResolved → TopsResolved
first_top first rest = record { tops = first.top ∷ rest.tops; loops = rest.loops; refusals = first.refusals ++ rest.refusals }

abbrev pub tops_of : List Core → ℕ → List Definition → ℕ → TopsResolved
tops_of [] number definitions loops = record { tops = []; loops = loops; refusals = [] }
tops_of (form ∷ forms) number definitions loops =
    let first = top_of form number definitions loops in
    first_top first (tops_of forms (functions_behind first.top.kind number) definitions first.loops)
