-- Top-level forms come to forms in range.
use Rattle.std.proofs.Common.{◌≡◌, ◌∙◌, ℕ, suc, ◌+◌, List, [], ◌∷◌, ◌++◌, length, None, Some, refl, sym, ap, subst, length-append}
use Rattle.std.specs.Prelude.{All}
use Rattle.std.proofs.lemmas.List.{length-map}
use Rattle.value_core.specs.Place.{Spot}
use Rattle.sexpr_reader.specs.declared.form.Form.{Form}
use Rattle.sugar.specs.declared.core_form.Core.{Core}
use Rattle.sugar.specs.Expansion.{expanded}
use Rattle.scope_names.specs.declared.definition.Definition.{Definition}
use Rattle.scope_names.specs.declared.definition.What.{What}
use Rattle.resolved_forms.specs.FormsInRange.{FormInRange, FormsFrom, FormsInRange, functions_behind, more, none, signatures_of}
use Rattle.resolved_forms.specs.InRange.{Signatures}
use Rattle.scope_check.specs.Check.{IsFound, declared_in, globals_in, resolved_in, tops_in, wrong_in}
use Rattle.scope_check.specs.declared.checking.Found.{Found}
use Rattle.scope_check.specs.Heads.{bound_name, checked_name}
use Rattle.scope_names.specs.Names.{defined}
use Rattle.scope_check.specs.Parts.{body}
use Rattle.scope_check.specs.Resolved.{Bound, Meaning}
use Rattle.scope_check.specs.Scope.{Scope, binding}
use Rattle.scope_names.specs.Shapes.{Shape, Function, Behaviour, Global, Value, Malformed, Reaction, shape_of}
use Rattle.scope_check.specs.Tops.{TopResolved, outside, function_stand, top_scope, parameters, function_top, behaviour_top, shaped_top, top_of, tops_of}
use Rattle.scope_check.specs.Value.{meaning, meanings}
use Rattle.scope_check.proofs.DefinedTops.{defined_among, file_agrees, none_first}
use Rattle.scope_check.proofs.Ranged.{Ranged, WhatRanged}
use Rattle.scope_check.proofs.RangedForms.{no_first, no_rest, name_loops, body_ranged}
use Rattle.scope_check.proofs.RangedMeanings.{meaning_ranged, meanings_ranged}

-- parameters are bound one after another
record Parametered (parts : List Meaning) (loops : ℕ) (due : Bound) : Type 0 where
  long : length due.names ≡ length parts
  same : due.loops ≡ loops

parametered : (parts : List Meaning) (scope : Scope) (loops : ℕ) → (parameters parts scope loops).refusals ≡ [] → Parametered parts loops (parameters parts scope loops)
parametered [] scope loops right = record { long = refl; same = refl }
parametered (p ∷ ps) scope loops right =
    let checked = checked_name p.name p scope loops in
    let next = binding (bound_name p.name ∷ []) scope in
    let rest = parameters ps next checked.loops in
    let left = parametered ps next checked.loops (no_rest checked.refusals rest.refusals right) in
    record {
      long = ap (λ n. suc n) left.long;
      same = left.same ∙ name_loops p.name p scope loops (no_first checked.refusals rest.refusals right);
    }

module _ (file : Signatures) (definitions : List Definition) (ready : (name : List ℕ) (what : What) → defined definitions name ≡ Some what → WhatRanged file what) where
  -- a form is in range where nothing is wrong
  abbrev IsTopRanged : ℕ → ℕ → TopResolved → Type 0
  IsTopRanged number loops due = due.refusals ≡ [] → FormInRange file number loops due.loops due.top.kind

  function_ranged : (at : Spot) (number : ℕ) (params parts : List Core) (loops : ℕ) → IsTopRanged number loops (function_top at number params parts definitions loops)
  function_ranged at number params parts loops right =
      let scope = top_scope definitions (function_stand number (length params)) in
      let ps = parameters (meanings params) scope loops in
      let inside = binding ps.names scope in
      let inner = body at (meanings parts) inside ps.loops in
      let are = parametered (meanings params) scope loops (no_first ps.refusals inner.refusals right) in
      let long : length ([] ++ ps.names) ≡ length params = are.long ∙ length-map params meaning in
      subst (λ n. Ranged file n inner.loops (length params) (Some (record { number = number; takes = length params })) inner.expr) are.same
      (subst (λ n. Ranged file ps.loops inner.loops n (Some (record { number = number; takes = length params })) inner.expr) long
      (body_ranged file definitions at (meanings parts) inside ps.loops (meanings_ranged file definitions ready parts) refl (no_rest ps.refusals inner.refusals right)))

  behaviour_ranged : (at : Spot) (reaction : Reaction) (number loops : ℕ) → IsTopRanged number loops (behaviour_top at reaction definitions loops)
  behaviour_ranged at reaction number loops right =
      let scope = top_scope definitions outside in
      let state = parameters (meanings reaction.state) scope loops in
      let outer = binding state.names scope in
      let message = parameters (meanings reaction.message) outer state.loops in
      let inside = binding message.names outer in
      let inner = body reaction.at (meanings reaction.body) inside message.loops in
      let ahead = no_first (state.refusals ++ message.refusals) inner.refusals right in
      let states = parametered (meanings reaction.state) scope loops (no_first state.refusals message.refusals ahead) in
      let messages = parametered (meanings reaction.message) outer state.loops (no_rest state.refusals message.refusals ahead) in
      let state_long = states.long ∙ length-map reaction.state meaning in
      let message_long = messages.long ∙ length-map reaction.message meaning in
      let long : length (([] ++ state.names) ++ message.names) ≡ length reaction.state + length reaction.message =
      length-append state.names message.names ∙ ap (λ n. n + length message.names) state_long ∙ ap (λ n. length reaction.state + n) message_long in
      subst (λ n. Ranged file n inner.loops (length reaction.state + length reaction.message) None inner.expr) (messages.same ∙ states.same)
      (subst (λ n. Ranged file message.loops inner.loops n None inner.expr) long
      (body_ranged file definitions reaction.at (meanings reaction.body) inside message.loops (meanings_ranged file definitions ready reaction.body) refl (no_rest (state.refusals ++ message.refusals) inner.refusals right)))

  shaped_ranged : (shape : Shape) (form : Core) (number loops : ℕ) → IsTopRanged number loops (shaped_top shape form number definitions loops)
  shaped_ranged (Function name params parts) form number loops = λ right. function_ranged form.at number params parts loops right
  shaped_ranged (Behaviour name reaction) form number loops = λ right. behaviour_ranged form.at reaction number loops right
  shaped_ranged (Global name value) form number loops = λ right. (meaning_ranged file definitions ready value).value (top_scope definitions outside) loops refl right
  shaped_ranged Value form number loops = λ right. (meaning_ranged file definitions ready form).value (top_scope definitions outside) loops refl right
  shaped_ranged Malformed form number loops = λ right. absurd (cc)

  pub tops_ranged : (forms : List Core) (number loops : ℕ) → (tops_of forms number definitions loops).refusals ≡ []
      → FormsFrom file number loops (tops_of forms number definitions loops).loops (tops_of forms number definitions loops).tops
  tops_ranged [] number loops right = none
  tops_ranged (form ∷ forms) number loops right =
      let first = top_of form number definitions loops in
      let rest = tops_of forms (functions_behind first.top.kind number) definitions first.loops in
      more (shaped_ranged (shape_of form) form number loops (no_first first.refusals rest.refusals right))
      (tops_ranged forms (functions_behind first.top.kind number) first.loops (no_rest first.refusals rest.refusals right))

-- what forms come to is in range, where nothing is wrong with them
pub tops_in_range : (forms : List Form) → wrong_in forms ≡ None → FormsInRange (tops_in forms) (globals_in forms)
tops_in_range forms nothing_wrong =
    let cores = expanded forms in
    let declared = declared_in forms in
    let due = resolved_in forms in
    let file = signatures_of (tops_in forms) (globals_in forms) in
    let right = none_first (declared.refusals ++ due.refusals) nothing_wrong in
    let agrees = file_agrees cores declared.definitions declared.functions (no_first declared.refusals due.refusals right) in
    let among : All (λ (x : Definition). WhatRanged (signatures_of (tops_in forms) (globals_in forms)) x.what) (declared_in forms).definitions =
    subst (λ g. All (λ (x : Definition). WhatRanged (signatures_of (tops_in forms) g) x.what) declared.definitions) (sym agrees.globals_are) agrees.among in
    let ready = λ (name : List ℕ) (x : What) (is : defined (declared_in forms).definitions name ≡ Some x). defined_among (WhatRanged file) declared.definitions name x among is in
    record {
      end = due.loops;
      forms = subst (λ n. FormsFrom file 0 n due.loops (tops_in forms)) agrees.functions
          (tops_ranged file declared.definitions ready cores 0 declared.functions (no_rest declared.refusals due.refusals right));
    }

-- so is what was found in them
pub found_in_range : (forms : List Form) (found : Found) → IsFound forms found → found.wrong ≡ None → FormsInRange found.tops found.globals
found_in_range forms found is right =
    subst (λ tops. FormsInRange tops found.globals) (sym is.tops) (subst (λ globals. FormsInRange (tops_in forms) globals) (sym is.globals) (tops_in_range forms (sym is.wrong ∙ right)))
