-- What the code of a program names.
use Rattle.std.specs.Prelude.{ℕ, ◌+◌, Bool, true, false, List, [], ◌∷◌, ◌++◌}
use Rattle.std.specs.List.{count_by}
use Rattle.value_core.specs.Place.{Spot}
use Rattle.resolved_forms.specs.declared.survey.Survey.{Survey}
use Rattle.resolved_forms.specs.declared.top.Top.{Top}
use Rattle.resolved_forms.specs.declared.top.TopKind.{TopKind}
use Rattle.resolved_forms.specs.declared.top.TopKind.TheVariants as top
use Rattle.resolved_forms.specs.declared.top_survey.TopSurvey.{TopSurvey}
use Rattle.resolved_forms.specs.Survey.{surveyed}

abbrev pub is_behaviour : TopKind → Bool
is_behaviour (top.Behaviour head body) = true
is_behaviour _ = false

abbrev pub behaviours_among : List Top → ℕ
behaviours_among tops = count_by (λ one. is_behaviour one.kind) tops

-- no form, where so many globals are bound
abbrev pub no_tops : ℕ → TopSurvey
no_tops globals = record { globals = globals; behaviours = []; functions = []; loops = []; forms = [] }

-- a form that main evaluates: so many globals are bound before it, and so many behind it
abbrev pub form_at : Spot → ℕ → ℕ → Survey → TopSurvey
form_at at before globals found = record {
  globals = globals;
  behaviours = [];
  functions = [];
  loops = found.loops;
  forms = record { at = at; before = before; uses = found.uses } ∷ [];
}

abbrev pub function_with : ℕ → Survey → TopSurvey
function_with globals found = record { globals = globals; behaviours = []; functions = found.uses ∷ []; loops = found.loops; forms = [] }

abbrev pub behaviour_with : ℕ → Survey → TopSurvey
behaviour_with globals found = record { globals = globals; behaviours = found.uses ∷ []; functions = []; loops = found.loops; forms = [] }

-- one form, in a file of so many behaviours, where so many globals are bound before it
abbrev pub top_survey : ℕ → ℕ → Spot → TopKind → TopSurvey
top_survey behaviours before at (top.Global value) = form_at at before (before + 1) (surveyed behaviours value)
top_survey behaviours before at (top.Value value) = form_at at before before (surveyed behaviours value)
top_survey behaviours before at (top.Function takes body) = function_with before (surveyed behaviours body)
top_survey behaviours before at (top.Behaviour head body) = behaviour_with before (surveyed behaviours body)

-- some forms, and those behind them
abbrev pub both_tops : TopSurvey → TopSurvey → TopSurvey
both_tops first others = record {
  globals = others.globals;
  behaviours = first.behaviours ++ others.behaviours;
  functions = first.functions ++ others.functions;
  loops = first.loops ++ others.loops;
  forms = first.forms ++ others.forms;
}

-- forms one after another
abbrev pub tops_from : ℕ → ℕ → List Top → TopSurvey
tops_from behaviours before [] = no_tops before
tops_from behaviours before (one ∷ others) =
    let first = top_survey behaviours before one.at one.kind in
    both_tops first (tops_from behaviours first.globals others)

abbrev pub tops_surveyed : List Top → TopSurvey
tops_surveyed tops = tops_from (behaviours_among tops) 0 tops
