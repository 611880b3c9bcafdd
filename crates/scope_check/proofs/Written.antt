-- The functions that forms declare are those of their top-level forms, where nothing is wrong.
use Rattle.std.proofs.Common.{◌≡◌, ◌∙◌, ℕ, ◌+◌, Bool, true, false, List, [], ◌∷◌, ◌++◌, length, None, Some, refl, sym, ap}
use Rattle.std.specs.Prelude.{if◌then◌else◌}
use Rattle.value_core.specs.Place.{Spot}
use Rattle.sugar.specs.declared.core_form.Core.{Core}
use Rattle.scope_check.specs.declared.declared.Declared.{Declared}
use Rattle.scope_names.specs.declared.definition.Definition.{Definition}
use Rattle.scope_refusals.specs.declared.refusal.Refusal.{Refusal}
use Rattle.resolved_forms.specs.declared.top.Top.{Top}
use Rattle.scope_check.specs.Declaring.{taken, twice, with_function, with_behaviour, with_global, declare_shape, declare, declare_all}
use Rattle.scope_refusals.specs.First.{first_from, first_of, sooner}
use Rattle.scope_names.specs.Shapes.{Shape, Function, Behaviour, Global, Value, Malformed, shape_of}
use Rattle.scope_check.specs.Tops.{shaped_top, top_of, tops_of}
use Rattle.resolved_forms.specs.FormsInRange.{functions_behind}

-- the first of some is none only where there are none
some_stays : (best : Refusal) (others : List Refusal) → first_from (Some best) others ≡ None → ⊥
some_stays best [] none = absurd (cc)
some_stays best (other ∷ others) none = some_stays (sooner (Some best) other) others none

pub none_of : (refusals : List Refusal) → first_of refusals ≡ None → refusals ≡ []
none_of [] none = refl
none_of (first ∷ others) none = absurd (some_stays (sooner None first) others none)

-- the number of the next function behind some forms
abbrev pub functions_after : ℕ → List Top → ℕ
functions_after number [] = number
functions_after number (top ∷ tops) = functions_after (functions_behind top.kind number) tops

not_none : (refusals : List Refusal) (last : Refusal) → refusals ++ last ∷ [] ≡ [] → ⊥
not_none [] last none = absurd (cc)
not_none (r ∷ refusals) last none = absurd (cc)

-- what was wrong before stays wrong
twice_kept : (b : Bool) (at : Spot) (d right : Declared) → right.refusals ≡ d.refusals → (if b then twice at d else right).refusals ≡ [] → d.refusals ≡ []
twice_kept true at d right same none = absurd (not_none d.refusals _ none)
twice_kept false at d right same none = sym same ∙ none

shape_kept : (shape : Shape) (at : Spot) (d : Declared) → (declare_shape shape at d).refusals ≡ [] → d.refusals ≡ []
shape_kept (Function name parameters body) at d none = twice_kept (taken name d) at d (with_function name (length parameters) d) refl none
shape_kept (Behaviour name reaction) at d none = twice_kept (taken name d) at d (with_behaviour name (length reaction.state) d) refl none
shape_kept (Global name value) at d none = twice_kept (taken name d) at d (with_global name d) refl none
shape_kept Value at d none = none
shape_kept Malformed at d none = none

all_kept : (forms : List Core) (d : Declared) → (declare_all forms d).refusals ≡ [] → d.refusals ≡ []
all_kept [] d none = none
all_kept (form ∷ forms) d none = shape_kept (shape_of form) form.at d (all_kept forms (declare form d) none)

-- a function that is declared counts, and no other form does
counts_function : (b : Bool) (at : Spot) (d right : Declared) → right.functions ≡ d.functions + 1 → (if b then twice at d else right).refusals ≡ [] → (if b then twice at d else right).functions ≡ d.functions + 1
counts_function true at d right same none = absurd (not_none d.refusals _ none)
counts_function false at d right same none = same

counts_no_function : (b : Bool) (at : Spot) (d right : Declared) → right.functions ≡ d.functions → (if b then twice at d else right).functions ≡ d.functions
counts_no_function true at d right same = refl
counts_no_function false at d right same = same

counted : (shape : Shape) (form : Core) (d : Declared) (number : ℕ) (definitions : List Definition) (loops : ℕ) → (declare_shape shape form.at d).refusals ≡ []
    → (declare_shape shape form.at d).functions ≡ functions_behind (shaped_top shape form number definitions loops).top.kind d.functions
counted (Function name parameters body) form d number definitions loops none = counts_function (taken name d) form.at d (with_function name (length parameters) d) refl none
counted (Behaviour name reaction) form d number definitions loops none = counts_no_function (taken name d) form.at d (with_behaviour name (length reaction.state) d) refl
counted (Global name value) form d number definitions loops none = counts_no_function (taken name d) form.at d (with_global name d) refl
counted Value form d number definitions loops none = refl
counted Malformed form d number definitions loops none = refl

pub functions_declared : (forms : List Core) (d : Declared) (number : ℕ) (definitions : List Definition) (loops : ℕ) → (declare_all forms d).refusals ≡ []
    → (declare_all forms d).functions ≡ functions_after d.functions (tops_of forms number definitions loops).tops
functions_declared [] d number definitions loops none = refl
functions_declared (form ∷ forms) d number definitions loops none =
    let first = top_of form number definitions loops in
    let rest = tops_of forms (functions_behind first.top.kind number) definitions first.loops in
    functions_declared forms (declare form d) (functions_behind first.top.kind number) definitions first.loops none
    ∙ ap (λ n. functions_after n rest.tops) (counted (shape_of form) form d number definitions loops (all_kept forms (declare form d) none))
