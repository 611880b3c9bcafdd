-- How many arguments the functions and behaviours of a program take.
use Rattle.std.proofs.Common.{◌≡◌, ◌∙◌, ℕ, zero, suc, ◌+◌, ◌==◌, true, false, cond, List, [], ◌∷◌, ◌++◌, length, map, Option, None, Some, refl, sym, ap, arith, append_assoc, append-nil, length-append}
use Rattle.std.specs.List.{slice_get}
use Rattle.std.specs.Option.{option_map, option_map_or}
use Rattle.std.proofs.lemmas.Bool.{eq-eqb}
use Rattle.std.proofs.lemmas.List.{map-append}
use Rattle.std.proofs.lemmas.List.Sums.{sum_by-cons}
use Rattle.std.proofs.lemmas.Option.{none-some, same_Some, slice_get-map}
use Rattle.value_core.specs.Place.{Spot}
use Rattle.core_syntax.specs.declared.behaviour.Behaviour.{Behaviour}
use Rattle.core_syntax.specs.declared.function.Function.{Function}
use Rattle.core_syntax.specs.Fits.{function_takes, state_takes}
use Rattle.core_syntax.proofs.Appends.{slice_get-append_left}
use Rattle.resolved_forms.specs.declared.layout.Layout.{Layout}
use Rattle.resolved_forms.specs.declared.top.Top.{Top}
use Rattle.resolved_forms.specs.declared.top.TopKind.{TopKind}
use Rattle.resolved_forms.specs.declared.top.TopKind.TheVariants as top
use Rattle.resolved_forms.specs.FormsInRange.{kind_params, kind_states, params_of, states_of}
use Rattle.program_plan.specs.Frame.{hidden_at, hidden_count}
use Rattle.program_plan.specs.Lowered.{Parts, no_parts, with_top, with_tops, program_of}
use Rattle.resolved_forms.specs.TopSurvey.{is_behaviour, behaviours_among, tops_from}

-- how many arguments functions take from a number on, with the hidden ones
abbrev takes_from : Layout → ℕ → List ℕ → List ℕ
takes_from layout number [] = []
takes_from layout number (params ∷ others) = (hidden_count (hidden_at layout.functions number) + params) ∷ takes_from layout (number + 1) others

-- how many values the states of behaviours have from a number on, with the hidden ones
abbrev holds_from : Layout → ℕ → List ℕ → List ℕ
holds_from layout number [] = []
holds_from layout number (state ∷ others) = (hidden_count (hidden_at layout.behaviours number) + state) ∷ holds_from layout (number + 1) others

abbrev takes_of_function : Function → ℕ
takes_of_function f = f.takes

abbrev holds_of : Behaviour → ℕ
holds_of b = b.hidden + b.state

-- one more element in front of what is counted from a number on
pushed : {X : Type 0} (f : X → ℕ) (counts : ℕ → List ℕ → List ℕ) (xs : List X) (x : X) (rest : List ℕ)
    → map f (xs ++ x ∷ []) ++ counts (length (xs ++ x ∷ [])) rest ≡ map f xs ++ (f x ∷ counts (length xs + 1) rest)
pushed f counts xs x rest =
    ap (λ n. map f (xs ++ x ∷ []) ++ counts n rest) (length-append xs (x ∷ []))
    ∙ ap (λ l. l ++ counts (length xs + 1) rest) (map-append f xs (x ∷ []))
    ∙ append_assoc (map f xs) (f x ∷ []) (counts (length xs + 1) rest)

module _ (layout : Layout) where
  taken_step : (parts : Parts) (at : Spot) (kind : TopKind) (rest : List ℕ)
      → map takes_of_function (with_top layout parts (record { at = at; kind = kind })).functions ++ takes_from layout (length (with_top layout parts (record { at = at; kind = kind })).functions) rest
      ≡ map takes_of_function parts.functions ++ takes_from layout (length parts.functions) (kind_params kind ++ rest)
  taken_step parts at (top.Global value) rest = refl
  taken_step parts at (top.Value value) rest = refl
  taken_step parts at (top.Behaviour head inner) rest = refl
  taken_step parts at (top.Function takes inner) rest = pushed takes_of_function (takes_from layout) parts.functions _ rest

  functions_taken : (parts : Parts) (forms : List Top)
      → map takes_of_function (with_tops layout parts forms).functions ≡ map takes_of_function parts.functions ++ takes_from layout (length parts.functions) (params_of forms)
  functions_taken parts [] = sym (append-nil (map takes_of_function parts.functions))
  functions_taken parts (form ∷ forms) = functions_taken (with_top layout parts form) forms ∙ taken_step parts form.at form.kind (params_of forms)

  held_step : (parts : Parts) (at : Spot) (kind : TopKind) (rest : List ℕ)
      → map holds_of (with_top layout parts (record { at = at; kind = kind })).behaviours ++ holds_from layout (length (with_top layout parts (record { at = at; kind = kind })).behaviours) rest
      ≡ map holds_of parts.behaviours ++ holds_from layout (length parts.behaviours) (kind_states kind ++ rest)
  held_step parts at (top.Global value) rest = refl
  held_step parts at (top.Value value) rest = refl
  held_step parts at (top.Function takes inner) rest = refl
  held_step parts at (top.Behaviour head inner) rest = pushed holds_of (holds_from layout) parts.behaviours _ rest

  behaviours_held : (parts : Parts) (forms : List Top)
      → map holds_of (with_tops layout parts forms).behaviours ≡ map holds_of parts.behaviours ++ holds_from layout (length parts.behaviours) (states_of forms)
  behaviours_held parts [] = sym (append-nil (map holds_of parts.behaviours))
  behaviours_held parts (form ∷ forms) = behaviours_held (with_top layout parts form) forms ∙ held_step parts form.at form.kind (states_of forms)

  takes_at : (number k params : ℕ) (all : List ℕ) → slice_get all k ≡ Some params → slice_get (takes_from layout number all) k ≡ Some (hidden_count (hidden_at layout.functions (number + k)) + params)
  takes_at number k params [] is = absurd (none-some params is)
  takes_at number zero params (p ∷ all) is =
      ap (λ n. Some (hidden_count (hidden_at layout.functions number) + n)) (same_Some p params is)
      ∙ ap (λ n. Some (hidden_count (hidden_at layout.functions n) + params)) (let same : number ≡ number + 0 = omega arith in same)
  takes_at number (suc k) params (p ∷ all) is =
      takes_at (number + 1) k params all is ∙ ap (λ n. Some (hidden_count (hidden_at layout.functions n) + params)) (let same : number + 1 + k ≡ number + suc k = omega arith in same)

  holds_at : (number k state : ℕ) (all : List ℕ) → slice_get all k ≡ Some state → slice_get (holds_from layout number all) k ≡ Some (hidden_count (hidden_at layout.behaviours (number + k)) + state)
  holds_at number k state [] is = absurd (none-some state is)
  holds_at number zero state (s ∷ all) is =
      ap (λ n. Some (hidden_count (hidden_at layout.behaviours number) + n)) (same_Some s state is)
      ∙ ap (λ n. Some (hidden_count (hidden_at layout.behaviours n) + state)) (let same : number ≡ number + 0 = omega arith in same)
  holds_at number (suc k) state (s ∷ all) is =
      holds_at (number + 1) k state all is ∙ ap (λ n. Some (hidden_count (hidden_at layout.behaviours n) + state)) (let same : number + 1 + k ≡ number + suc k = omega arith in same)

  length-takes_from : (number : ℕ) (all : List ℕ) → length (takes_from layout number all) ≡ length all
  length-takes_from number [] = refl
  length-takes_from number (p ∷ all) = ap (λ n. suc n) (length-takes_from (number + 1) all)

-- an element behind others
pub slice_get-append_right : {X : Type 0} (xs ys : List X) (k : ℕ) → slice_get (xs ++ ys) (length xs + k) ≡ slice_get ys k
slice_get-append_right [] ys k = ap (slice_get ys) (let same : 0 + k ≡ k = omega arith in same)
slice_get-append_right (x ∷ xs) ys k = ap (slice_get (x ∷ xs ++ ys)) (let same : suc (length xs) + k ≡ suc (length xs + k) = omega arith in same) ∙ slice_get-append_right xs ys k

-- what is tested of an element by its number
tested : {X : Type 0} (f : X → ℕ) (xs : List X) (k n : ℕ) → slice_get (map f xs) k ≡ Some n → option_map_or (λ x. f x == n) (slice_get xs k) false ≡ true
tested {X} f xs k n is = on (slice_get xs k) (sym (slice_get-map f xs k) ∙ is)
  where
    on : (o : Option X) → option_map f o ≡ Some n → option_map_or (λ x. f x == n) o false ≡ true
    on None e = absurd (none-some n e)
    on (Some x) e = eq-eqb (f x) n (same_Some (f x) n e)

module _ (layout : Layout) (forms : List Top) where
  abbrev parts : Parts
  parts = with_tops layout no_parts forms

  all_taken : map takes_of_function (parts.functions ++ parts.draft.loops) ≡ takes_from layout 0 (params_of forms) ++ map takes_of_function parts.draft.loops
  all_taken = map-append takes_of_function parts.functions parts.draft.loops ∙ ap (λ l. l ++ map takes_of_function parts.draft.loops) (functions_taken layout no_parts forms)

  -- a function of the top level takes its hidden arguments and its parameters
  pub function_taken : (number params : ℕ) → slice_get (params_of forms) number ≡ Some params
      → function_takes (program_of layout forms) number (hidden_count (hidden_at layout.functions number) + params) ≡ true
  function_taken number params is =
      let takes = hidden_count (hidden_at layout.functions number) + params in
      tested takes_of_function (parts.functions ++ parts.draft.loops) number takes
      (ap (λ l. slice_get l number) all_taken
      ∙ slice_get-append_left (takes_from layout 0 (params_of forms)) (map takes_of_function parts.draft.loops) number takes
      (takes_at layout 0 number params (params_of forms) is ∙ ap (λ n. Some (hidden_count (hidden_at layout.functions n) + params)) (let same : 0 + number ≡ number = omega arith in same)))

  -- the functions of loops are behind them
  pub loop_taken : (takes : List ℕ) (k n : ℕ) → map takes_of_function parts.draft.loops ≡ takes → slice_get takes k ≡ Some n → function_takes (program_of layout forms) (length (params_of forms) + k) n ≡ true
  loop_taken takes k n are is =
      let front = takes_from layout 0 (params_of forms) in
      tested takes_of_function (parts.functions ++ parts.draft.loops) (length (params_of forms) + k) n
      (ap (λ l. slice_get l (length (params_of forms) + k)) all_taken
      ∙ ap (λ m. slice_get (front ++ map takes_of_function parts.draft.loops) (m + k)) (sym (length-takes_from layout 0 (params_of forms)))
      ∙ slice_get-append_right front (map takes_of_function parts.draft.loops) k
      ∙ ap (λ l. slice_get l k) are ∙ is)

  -- the state of a behaviour holds its hidden arguments and its state parameters
  pub behaviour_held : (number state : ℕ) → slice_get (states_of forms) number ≡ Some state
      → state_takes (program_of layout forms) number (hidden_count (hidden_at layout.behaviours number) + state) ≡ true
  behaviour_held number state is =
      tested holds_of parts.behaviours number (hidden_count (hidden_at layout.behaviours number) + state)
      (ap (λ l. slice_get l number) (behaviours_held layout no_parts forms) ∙ holds_at layout 0 number state (states_of forms) is
      ∙ ap (λ n. Some (hidden_count (hidden_at layout.behaviours n) + state)) (let same : 0 + number ≡ number = omega arith in same))

-- a survey has as many functions and behaviours as the forms
pub functions_surveyed : (behaviours before : ℕ) (forms : List Top) → length (tops_from behaviours before forms).functions ≡ length (params_of forms)
functions_surveyed behaviours before [] = refl
functions_surveyed behaviours before (form ∷ forms) = on form.at form.kind (λ count. functions_surveyed behaviours count forms)
  where
    on : (at : Spot) (kind : TopKind) → ((count : ℕ) → length (tops_from behaviours count forms).functions ≡ length (params_of forms))
        → length (tops_from behaviours before (record { at = at; kind = kind } ∷ forms)).functions ≡ length (kind_params kind ++ params_of forms)
    on at (top.Global value) rest = rest (before + 1)
    on at (top.Value value) rest = rest before
    on at (top.Function takes inner) rest = ap (λ n. suc n) (rest before)
    on at (top.Behaviour head inner) rest = rest before

pub behaviours_surveyed : (behaviours before : ℕ) (forms : List Top) → length (tops_from behaviours before forms).behaviours ≡ length (states_of forms)
behaviours_surveyed behaviours before [] = refl
behaviours_surveyed behaviours before (form ∷ forms) = on form.at form.kind (λ count. behaviours_surveyed behaviours count forms)
  where
    on : (at : Spot) (kind : TopKind) → ((count : ℕ) → length (tops_from behaviours count forms).behaviours ≡ length (states_of forms))
        → length (tops_from behaviours before (record { at = at; kind = kind } ∷ forms)).behaviours ≡ length (kind_states kind ++ states_of forms)
    on at (top.Global value) rest = rest (before + 1)
    on at (top.Value value) rest = rest before
    on at (top.Function takes inner) rest = rest before
    on at (top.Behaviour head inner) rest = ap (λ n. suc n) (rest before)

pub behaviours_counted : (forms : List Top) → behaviours_among forms ≡ length (states_of forms)
behaviours_counted [] = refl
behaviours_counted (form ∷ forms) =
    sum_by-cons (λ (one : Top). cond (is_behaviour one.kind) 1 0) form forms ∙ on form.kind (behaviours_counted forms)
  where
    on : (kind : TopKind) → behaviours_among forms ≡ length (states_of forms) → cond (is_behaviour kind) 1 0 + behaviours_among forms ≡ length (kind_states kind ++ states_of forms)
    on (top.Global value) rest = omega arith
    on (top.Value value) rest = omega arith
    on (top.Function takes inner) rest = omega arith
    on (top.Behaviour head inner) rest = omega arith
