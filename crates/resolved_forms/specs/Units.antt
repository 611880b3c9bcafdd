-- The units of code, and their hidden arguments.
use Rattle.std.specs.Prelude.{ℕ, suc, ◌+◌, List, [], ◌∷◌, ◌++◌, length, map, get_or, replicate, fold}
use Rattle.std.specs.Ordering.{nat_cmp}
use Rattle.std.specs.BTreeSet.{insert_key}
use Rattle.resolved_forms.specs.declared.layout.Hidden.{Hidden}
use Rattle.resolved_forms.specs.declared.layout.Layout.{Layout}
use Rattle.resolved_forms.specs.declared.top_survey.TopSurvey.{TopSurvey}
use Rattle.resolved_forms.specs.declared.uses.Uses.{Uses}

-- the behaviours, the functions of the top level, and those of loops
abbrev pub all_units : TopSurvey → List Uses
all_units survey = survey.behaviours ++ survey.functions ++ map (λ one. one.uses) survey.loops

-- the numbers in rising order, each of them once
abbrev pub rising : List ℕ → List ℕ
rising numbers = fold (insert_key nat_cmp) [] numbers

-- the globals that a unit reaches, and the levels of a loop; both rise
abbrev pub hidden_of : List (List ℕ) → ℕ → List ℕ → Hidden
hidden_of reached unit levels = record { globals = get_or reached unit []; levels = rising levels }

-- those of the units from one on, where they have these levels
abbrev pub hidden_from : List (List ℕ) → ℕ → List (List ℕ) → List Hidden
hidden_from reached unit [] = []
hidden_from reached unit (levels ∷ others) = hidden_of reached unit levels ∷ hidden_from reached (suc unit) others

-- only loops have levels
abbrev pub layout_of : TopSurvey → List (List ℕ) → Layout
layout_of survey reached =
    let behaviours = length survey.behaviours in
    let functions = length survey.functions in
    record {
      behaviours = hidden_from reached 0 (replicate behaviours []);
      functions = hidden_from reached behaviours (replicate functions []) ++ hidden_from reached (behaviours + functions) (map (λ one. one.levels) survey.loops);
    }
