-- Forms that may need a global before it is bound.
use Rattle.std.specs.Prelude.{ℕ, ◌≤◌, Bool, ◌||◌, ◌⊎◌, nat_le, List, [], ◌∷◌, get_or, Option, None, Some, if◌then◌else◌, Contains}
use Rattle.std.specs.List.{list_any}
use Rattle.value_core.specs.Place.{Spot}
use Rattle.resolved_forms.specs.declared.top_survey.FormSurvey.{FormSurvey}
use Rattle.resolved_forms.specs.declared.uses.Uses.{Uses}

-- what evaluating a form may need: the globals that it names, and those that the units reach which it names
abbrev pub MayNeed : List (List ℕ) → Uses → ℕ → Type 0
MayNeed reached uses global = Contains uses.globals global ⊎ ((unit : ℕ) × Contains uses.units unit × Contains (get_or reached unit []) global)

-- some global that it may need is none of those bound before it
abbrev pub IsEarly : List (List ℕ) → FormSurvey → Type 0
IsEarly reached form = (global : ℕ) × MayNeed reached form.uses global × (form.before ≤ global)

-- the same as a test: some of the globals is not bound where so many are
abbrev pub some_unbound : ℕ → List ℕ → Bool
some_unbound before globals = list_any (λ global. nat_le before global) globals

abbrev pub reaches_unbound : List (List ℕ) → ℕ → List ℕ → Bool
reaches_unbound reached before units = list_any (λ unit. some_unbound before (get_or reached unit [])) units

abbrev pub is_early : List (List ℕ) → FormSurvey → Bool
is_early reached form = some_unbound form.before form.uses.globals || reaches_unbound reached form.before form.uses.units

-- the place of the first early one among the forms
abbrev pub first_early : List FormSurvey → List (List ℕ) → Option Spot
first_early [] reached = None
first_early (form ∷ forms) reached = if is_early reached form then Some form.at else first_early forms reached
