-- One turn of the loops over parameters and over top-level forms.
use Rattle.std.proofs.Common.{◌≡◌, ℕ, List, [], ◌∷◌, ◌++◌, refl, ap, ◌∙◌, append_assoc}
use Rattle.sugar.specs.declared.core_form.Core.{Core}
use Rattle.scope_check.specs.declared.resolver.Resolver.{Resolver}
use Rattle.scope_check.specs.declared.stand.Stand.{Stand}
use Rattle.resolved_forms.specs.declared.top.Top.{Top}
use Rattle.scope_check.specs.Heads.{bound_name, checked_name}
use Rattle.scope_check.specs.Moves.{scope_in, NamesOne, GivesTop}
use Rattle.scope_check.specs.Resolved.{Bound, Meaning}
use Rattle.scope_check.specs.Scope.{Scope, binding}
use Rattle.scope_check.specs.Tops.{parameters, top_of, tops_of, TopsResolved}
use Rattle.resolved_forms.specs.FormsInRange.{functions_behind}
use Rattle.scope_check.proofs.Remaining.{StillBinds, StillTops}
use Rattle.scope_check.proofs.Steps.{same_scope}

exprs_none : (ps : List Meaning) (scope : Scope) (loops : ℕ) → [] ++ (parameters ps scope loops).exprs ≡ []
exprs_none [] scope loops = refl
exprs_none (p ∷ ps) scope loops = refl

pub parameters_step : (start now mid new : Resolver) (stand : Stand) (p : Meaning) (rest : List Meaning) (name : List ℕ) (due : Bound)
    → StillBinds start now [] (parameters (p ∷ rest) (scope_in now stand) now.loops) due
    → NamesOne now mid (bound_name p.name) (checked_name p.name p (scope_in now stand) now.loops) name
    → new.definitions ≡ mid.definitions → new.locals ≡ mid.locals ++ name ∷ [] → new.loops ≡ mid.loops → new.refusals ≡ mid.refusals
    → StillBinds start new [] (parameters rest (scope_in new stand) new.loops) due
parameters_step start now mid new stand p rest name due still one definitions locals loops refusals =
    let scope = scope_in now stand in
    let checked = checked_name p.name p scope now.loops in
    let more = binding (bound_name p.name ∷ []) scope in
    let left = parameters rest more checked.loops in
    let definitions_is = definitions ∙ one.moves.definitions in
    let locals_is = locals ∙ ap (λ l. l ++ name ∷ []) one.moves.locals ∙ ap (λ n. now.locals ++ n ∷ []) one.is in
    let scope_is = same_scope new now stand (now.locals ++ bound_name p.name ∷ []) definitions_is locals_is in
    let left_is = ap (λ s. parameters rest s new.loops) scope_is ∙ ap (parameters rest more) (loops ∙ one.moves.loops_now) in
    record {
      definitions = definitions_is ∙ still.definitions;
      names_left = ap (λ l. l ++ (parameters rest (scope_in new stand) new.loops).names) locals_is ∙ ap (λ l. (now.locals ++ bound_name p.name ∷ []) ++ l.names) left_is
          ∙ append_assoc now.locals (bound_name p.name ∷ []) left.names ∙ still.names_left;
      exprs_left = ap (λ l. [] ++ l.exprs) left_is ∙ exprs_none rest more checked.loops ∙ still.exprs_left;
      loops_left = ap (λ l. l.loops) left_is ∙ still.loops_left;
      refusals_left = ap (λ r. r ++ (parameters rest (scope_in new stand) new.loops).refusals) (refusals ∙ one.moves.refusals_now)
          ∙ ap (λ l. (now.refusals ++ checked.refusals) ++ l.refusals) left_is ∙ append_assoc now.refusals checked.refusals left.refusals ∙ still.refusals_left;
    }

pub tops_step : (start now mid : Resolver) (form : Core) (rest : List Core) (number next : ℕ) (tops : List Top) (top : Top) (due : TopsResolved)
    → StillTops start now tops (tops_of (form ∷ rest) number now.definitions now.loops) due
    → GivesTop now mid (top_of form number now.definitions now.loops) top
    → next ≡ functions_behind top.kind number
    → StillTops start mid (tops ++ top ∷ []) (tops_of rest next mid.definitions mid.loops) due
tops_step start now mid form rest number next tops top due still one counted =
    let first = top_of form number now.definitions now.loops in
    let left = tops_of rest (functions_behind first.top.kind number) now.definitions first.loops in
    let counted_is = counted ∙ ap (λ t. functions_behind t.kind number) one.is in
    let left_is = ap (λ n. tops_of rest n mid.definitions mid.loops) counted_is ∙ ap (λ d. tops_of rest (functions_behind first.top.kind number) d mid.loops) one.moves.definitions
    ∙ ap (tops_of rest (functions_behind first.top.kind number) now.definitions) one.moves.loops_now in
    record {
      definitions = one.moves.definitions ∙ still.definitions;
      locals = one.moves.locals ∙ still.locals;
      tops_left = ap (λ l. (tops ++ top ∷ []) ++ l.tops) left_is ∙ append_assoc tops (top ∷ []) left.tops ∙ ap (λ t. tops ++ t ∷ left.tops) one.is ∙ still.tops_left;
      loops_left = ap (λ l. l.loops) left_is ∙ still.loops_left;
      refusals_left = ap (λ r. r ++ (tops_of rest next mid.definitions mid.loops).refusals) one.moves.refusals_now
          ∙ ap (λ l. (now.refusals ++ first.refusals) ++ l.refusals) left_is ∙ append_assoc now.refusals first.refusals left.refusals ∙ still.refusals_left;
    }
