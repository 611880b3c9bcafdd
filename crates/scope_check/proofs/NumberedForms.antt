-- The loops of every form are numbered one after another, and those of all top-level forms.
use Rattle.std.proofs.Common.{◌≡◌, ◌∙◌, ℕ, List, [], ◌∷◌, ◌++◌, length, map, refl, sym, subst}
use Rattle.std.specs.Prelude.{◌==◌, ◌%◌}
use Rattle.value_core.specs.Place.{Spot}
use Rattle.sugar.specs.declared.core_form.Core.{Core}
use Rattle.sugar.specs.declared.core_form.CoreKind.{CoreKind}
use Rattle.sugar.specs.declared.core_form.CoreKind.TheOpen as one
use Rattle.sugar.specs.declared.core_form.CoreKind.TheFolds.{fold-CoreKind, fold-roll-Core, fold-roll-CoreKind, ind-Core, map-CoreKind}
use Rattle.sugar.specs.declared.core_form.CoreKind.TheViews.{roll-Core, roll-CoreKind}
use Rattle.scope_names.specs.declared.definition.Definition.{Definition}
use Rattle.scope_names.specs.declared.definition.What.TheVariants as what
use Rattle.scope_refusals.specs.declared.kind.ScopeKind.TheVariants.{Unknown, BadForm}
use Rattle.resolved_forms.specs.declared.expr.ExprKind.TheVariants as expr
use Rattle.scope_names.specs.declared.found.Found.{Found}
use Rattle.scope_names.specs.declared.found.Found.TheVariants as found
use Rattle.resolved_forms.specs.declared.head.Head.TheVariants as head
use Rattle.scope_check.specs.declared.rule.Rule.TheVariants as rule
use Rattle.resolved_forms.specs.declared.top.Top.{Top}
use Rattle.resolved_forms.specs.declared.top.TopKind.{TopKind}
use Rattle.resolved_forms.specs.declared.top.TopKind.TheVariants as top
use Rattle.scope_check.specs.Heads.{bound_name, checked_name}
use Rattle.scope_names.specs.Names.{made_name}
use Rattle.scope_check.specs.Parts.{body}
use Rattle.scope_check.specs.Resolved.{Resolved, Meaning}
use Rattle.scope_check.specs.Scope.{Scope, binding, find_in}
use Rattle.scope_names.specs.Shapes.{Shape, Function, Behaviour, Global, Value, Malformed, Reaction, shape_of}
use Rattle.scope_check.specs.Tops.{TopResolved, parameters, function_top, behaviour_top, shaped_top, top_of, tops_of, top_scope, function_stand, outside}
use Rattle.resolved_forms.specs.FormsInRange.{functions_behind}
use Rattle.scope_check.specs.Value.{found_value, name_of, nameless, bad_kind, kind_step, core_step, meaning, meanings}
use Rattle.program_plan.proofs.Holding.{Follow, Follow-append}
use Rattle.resolved_forms.proofs.LoopNumbers.{joined, loop_numbers}
use Rattle.scope_check.proofs.Numbered.{IsNumbered, MeaningNumbered, AllNumbered, none_appended, numbers-Nil, numbers-Bool, numbers-Int, numbers-Str, numbers-Kw, numbers-Local, numbers-Global, resolved_numbered, failed_numbered, formed_numbered, applied_numbered, body_numbered}
use Rattle.scope_check.proofs.NumberedHeads.{no_loop_in_name, bound_numbered, list_numbered}

found_numbered : (what : Found) (at : Spot) (loops : ℕ) → IsNumbered loops (found_value what at loops)
found_numbered (found.Local level) at loops = resolved_numbered at (expr.Local level) loops (numbers-Local level)
found_numbered (found.Defined (what.Global number)) at loops = resolved_numbered at (expr.Global number) loops (numbers-Global number)
found_numbered found.Nothing at loops = failed_numbered Unknown at loops
found_numbered _ at loops = failed_numbered BadForm at loops

name_numbered : (name : List ℕ) (at : Spot) → MeaningNumbered (name_of name at)
name_numbered name at = record { value = λ scope loops. found_numbered (find_in scope name) at loops; bindings = tt }

nameless_numbered : (at : Spot) (value : Scope → ℕ → Resolved) → ((scope : Scope) (loops : ℕ) → IsNumbered loops (value scope loops)) → MeaningNumbered (nameless at value)
nameless_numbered at value numbered = record { value = numbered; bindings = tt }

abbrev of_kind : CoreKind → Spot → Meaning
of_kind = fold-CoreKind (Spot → Meaning) Meaning kind_step core_step

abbrev FormNumbered : Core → Type 0
FormNumbered core = MeaningNumbered (meaning core)

abbrev KindNumbered : CoreKind → Type 0
KindNumbered kind = (at : Spot) → MeaningNumbered (of_kind kind at)

abbrev Given : Type 0
Given = (core : Core) × FormNumbered core

abbrev GivenKind : Type 0
GivenKind = (kind : CoreKind) × KindNumbered kind

all_numbered : (given : List Given) → AllNumbered (map meaning (map (λ e. e.0) given))
all_numbered [] = tt
all_numbered (e ∷ given) = (e.1, all_numbered given)

-- one level over parts whose loops are numbered so
LevelNumbered : one.CoreKind-F CoreKind Core → Type 0
LevelNumbered x = (at : Spot) → MeaningNumbered (kind_step (map-CoreKind CoreKind Core (Spot → Meaning) Meaning of_kind meaning x) at)

level : (y : one.CoreKind-F GivenKind Given) → LevelNumbered (map-CoreKind GivenKind Given CoreKind Core (λ e. e.0) (λ e. e.0) y)
unfolding LevelNumbered
level one.Nil at = nameless_numbered at _ (λ scope loops. resolved_numbered at expr.Nil loops numbers-Nil)
level (one.Bool b) at = nameless_numbered at _ (λ scope loops. resolved_numbered at (expr.Bool b) loops (numbers-Bool b))
level (one.Int n) at = nameless_numbered at _ (λ scope loops. resolved_numbered at (expr.Int n) loops (numbers-Int n))
level (one.Str text) at = nameless_numbered at _ (λ scope loops. resolved_numbered at (expr.Str text) loops (numbers-Str text))
level (one.Kw name) at = nameless_numbered at _ (λ scope loops. resolved_numbered at (expr.Kw name) loops (numbers-Kw name))
level (one.Sym name) at = name_numbered name at
level (one.Fresh n) at = name_numbered (made_name n) at
level (one.List given) at = nameless_numbered at _ (λ scope loops. list_numbered at (map meaning (map (λ (e : Given). e.0) given)) scope loops (all_numbered given))
level (one.Vector given) at =
    let parts = map meaning (map (λ (e : Given). e.0) given) in
    record {
      value = λ scope loops. applied_numbered head.Vector rule.Plain at parts scope loops (all_numbered given);
      bindings = λ scope loops. bound_numbered parts scope loops (all_numbered given);
    }
level (one.Map given) at =
    let parts = map meaning (map (λ (e : Given). e.0) given) in
    nameless_numbered at _ (λ scope loops. formed_numbered (length parts % 2 == 0) at _ loops (applied_numbered head.Map rule.Plain at parts scope loops (all_numbered given)))
level (one.Bad kind) at = nameless_numbered at _ (λ scope loops. failed_numbered (bad_kind kind) at loops)

rolled : (x : one.CoreKind-F CoreKind Core) → LevelNumbered x → KindNumbered (roll-CoreKind x)
unfolding LevelNumbered
rolled x numbered at = subst (λ (m : Spot → Meaning). MeaningNumbered (m at)) (sym (fold-roll-CoreKind (Spot → Meaning) Meaning kind_step core_step x)) (numbered at)

rolled_core : (x : one.Core-F CoreKind Core) → KindNumbered x.kind → FormNumbered (roll-Core x)
rolled_core x numbered = subst MeaningNumbered (sym (fold-roll-Core (Spot → Meaning) Meaning kind_step core_step x)) (numbered x.at)

-- what each form comes to, wherever it stands
pub form_numbered : (core : Core) → FormNumbered core
form_numbered = ind-Core KindNumbered FormNumbered (λ x y is. rolled x (subst LevelNumbered is (level y)))
    (λ x y is. rolled_core x (subst (λ (z : one.Core-F CoreKind Core). KindNumbered z.kind) is y.kind.1))

forms_numbered : (cores : List Core) → AllNumbered (meanings cores)
forms_numbered [] = tt
forms_numbered (core ∷ cores) = (form_numbered core, forms_numbered cores)

-- where nothing is wrong with parameters, no loop is in them
no_loop_in_parameters : (ps : List Meaning) (scope : Scope) (loops : ℕ) → (parameters ps scope loops).refusals ≡ [] → (parameters ps scope loops).loops ≡ loops
no_loop_in_parameters [] scope loops none = refl
no_loop_in_parameters (p ∷ ps) scope loops none =
    let checked = checked_name p.name p scope loops in
    let more = binding (bound_name p.name ∷ []) scope in
    let both = none_appended checked.refusals (parameters ps more checked.loops).refusals none in
    no_loop_in_parameters ps more checked.loops both.1 ∙ no_loop_in_name p.name p scope loops both.0

-- the expression of a top-level form, and the numbers of the loops in it
abbrev pub kind_numbers : TopKind → List ℕ
kind_numbers (top.Global inner) = loop_numbers inner
kind_numbers (top.Value inner) = loop_numbers inner
kind_numbers (top.Function takes inner) = loop_numbers inner
kind_numbers (top.Behaviour head inner) = loop_numbers inner

abbrev pub top_numbers : List Top → List ℕ
top_numbers tops = joined (map (λ one. kind_numbers one.kind) tops)

record TopNumbered (from : ℕ) (due : TopResolved) : Type 0 where
  follow : due.refusals ≡ [] → Follow from due.loops (kind_numbers due.top.kind)

-- the loops of a body behind parameters
behind_parameters : (from mid : ℕ) (inner : Resolved) → mid ≡ from → inner.refusals ≡ [] → IsNumbered mid inner → Follow from inner.loops (loop_numbers inner.expr)
behind_parameters from mid inner same none numbered = subst (λ (n : ℕ). Follow n inner.loops (loop_numbers inner.expr)) same (numbered.follow none)

function_numbered : (at : Spot) (number : ℕ) (params parts : List Core) (definitions : List Definition) (loops : ℕ) → TopNumbered loops (function_top at number params parts definitions loops)
function_numbered at number params parts definitions loops =
    let scope = top_scope definitions (function_stand number (length params)) in
    let ps = parameters (meanings params) scope loops in
    let inner = body at (meanings parts) (binding ps.names scope) ps.loops in
    record {
      follow = λ none.
          let both = none_appended ps.refusals inner.refusals none in
          behind_parameters loops ps.loops inner (no_loop_in_parameters (meanings params) scope loops both.0) both.1
          (body_numbered at (meanings parts) (binding ps.names scope) ps.loops (forms_numbered parts));
    }

behaviour_numbered : (at : Spot) (reaction : Reaction) (definitions : List Definition) (loops : ℕ) → TopNumbered loops (behaviour_top at reaction definitions loops)
behaviour_numbered at reaction definitions loops =
    let scope = top_scope definitions outside in
    let state = parameters (meanings reaction.state) scope loops in
    let message = parameters (meanings reaction.message) (binding state.names scope) state.loops in
    let inside = binding message.names (binding state.names scope) in
    let inner = body reaction.at (meanings reaction.body) inside message.loops in
    record {
      follow = λ none.
          let both = none_appended (state.refusals ++ message.refusals) inner.refusals none in
          let names = none_appended state.refusals message.refusals both.0 in
          let same = no_loop_in_parameters (meanings reaction.message) (binding state.names scope) state.loops names.1 ∙ no_loop_in_parameters (meanings reaction.state) scope loops names.0 in
          behind_parameters loops message.loops inner same both.1 (body_numbered reaction.at (meanings reaction.body) inside message.loops (forms_numbered reaction.body));
    }

shaped_numbered : (shape : Shape) (form : Core) (number : ℕ) (definitions : List Definition) (loops : ℕ) → TopNumbered loops (shaped_top shape form number definitions loops)
shaped_numbered (Function name params parts) form number definitions loops = function_numbered form.at number params parts definitions loops
shaped_numbered (Behaviour name reaction) form number definitions loops = behaviour_numbered form.at reaction definitions loops
shaped_numbered (Global name value) form number definitions loops = record { follow = ((form_numbered value).value (top_scope definitions outside) loops).follow }
shaped_numbered Value form number definitions loops = record { follow = ((form_numbered form).value (top_scope definitions outside) loops).follow }
shaped_numbered Malformed form number definitions loops = record { follow = λ none. absurd (cc) }

-- the loops of all forms have the numbers from one on, where nothing is wrong
pub tops_numbered : (forms : List Core) (number : ℕ) (definitions : List Definition) (loops : ℕ)
    → (tops_of forms number definitions loops).refusals ≡ [] → Follow loops (tops_of forms number definitions loops).loops (top_numbers (tops_of forms number definitions loops).tops)
tops_numbered [] number definitions loops none = refl
tops_numbered (form ∷ forms) number definitions loops none =
    let first = top_of form number definitions loops in
    let rest = tops_of forms (functions_behind first.top.kind number) definitions first.loops in
    let both = none_appended first.refusals rest.refusals none in
    Follow-append loops first.loops rest.loops (kind_numbers first.top.kind) (top_numbers rest.tops)
    ((shaped_numbered (shape_of form) form number definitions loops).follow both.0) (tops_numbered forms (functions_behind first.top.kind number) definitions first.loops both.1)
