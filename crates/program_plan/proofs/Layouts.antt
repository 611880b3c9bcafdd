-- What the functions and behaviours of a layout hide, and which units they are.
use Rattle.std.proofs.Common.{◌≡◌, ◌∙◌, ℕ, zero, suc, ◌+◌, ◌<◌, List, [], ◌∷◌, ◌++◌, length, map, replicate, Some, refl, sym, ap, arith, length-append}
use Rattle.std.specs.List.{slice_get}
use Rattle.std.specs.Option.{option_map}
use Rattle.std.proofs.lemmas.Option.{none-some, same_Some, slice_get-map}
use Rattle.core_syntax.proofs.Appends.{slice_get-append_left}
use Rattle.resolved_forms.specs.declared.survey.LoopSurvey.{LoopSurvey}
use Rattle.resolved_forms.specs.declared.top_survey.TopSurvey.{TopSurvey}
use Rattle.resolved_forms.specs.declared.uses.Uses.{Uses}
use Rattle.program_plan.specs.Frame.{hidden_at, or_nothing}
use Rattle.resolved_forms.specs.Units.{all_units, hidden_of, hidden_from, layout_of}
use Rattle.program_plan.proofs.Taken.{slice_get-append_right}

module _ (reached : List (List ℕ)) where
  hidden_from-at : (unit k : ℕ) (levels : List ℕ) (all : List (List ℕ)) → slice_get all k ≡ Some levels → slice_get (hidden_from reached unit all) k ≡ Some (hidden_of reached (unit + k) levels)
  hidden_from-at unit k levels [] is = absurd (none-some levels is)
  hidden_from-at unit zero levels (first ∷ all) is =
      ap (λ l. Some (hidden_of reached unit l)) (same_Some first levels is) ∙ ap (λ n. Some (hidden_of reached n levels)) (let same : unit ≡ unit + 0 = omega arith in same)
  hidden_from-at unit (suc k) levels (first ∷ all) is =
      hidden_from-at (suc unit) k levels all is ∙ ap (λ n. Some (hidden_of reached n levels)) (let same : suc unit + k ≡ unit + suc k = omega arith in same)

  length-hidden_from : (unit : ℕ) (all : List (List ℕ)) → length (hidden_from reached unit all) ≡ length all
  length-hidden_from unit [] = refl
  length-hidden_from unit (first ∷ all) = ap (λ n. suc n) (length-hidden_from (suc unit) all)

copied_at : {X : Type 0} (x : X) (n k : ℕ) → k < n → slice_get (replicate n x) k ≡ Some x
copied_at x zero k lt = absurd (omega arith)
copied_at x (suc n) zero lt = refl
copied_at x (suc n) (suc k) lt = copied_at x n k (omega arith)

length-copied : {X : Type 0} (x : X) (n : ℕ) → length (replicate n x) ≡ n
length-copied x zero = refl
length-copied x (suc n) = ap (λ k. suc k) (length-copied x n)

module _ (survey : TopSurvey) (reached : List (List ℕ)) where
  -- a function of the top level hides the globals that its unit reaches
  pub function_hidden : (number : ℕ) → number < length survey.functions → hidden_at (layout_of survey reached).functions number ≡ hidden_of reached (length survey.behaviours + number) []
  function_hidden number lt =
      let plain = hidden_from reached (length survey.behaviours) (replicate (length survey.functions) []) in
      let behind = hidden_from reached (length survey.behaviours + length survey.functions) (map (λ (l : LoopSurvey). l.levels) survey.loops) in
      let due = hidden_of reached (length survey.behaviours + number) [] in
      ap or_nothing (slice_get-append_left plain behind number due
      (hidden_from-at reached (length survey.behaviours) number [] (replicate (length survey.functions) []) (copied_at [] (length survey.functions) number lt)))

  -- the function of a loop hides the levels of its body too
  pub loop_hidden : (k : ℕ) (loop : LoopSurvey) → slice_get survey.loops k ≡ Some loop
      → hidden_at (layout_of survey reached).functions (length survey.functions + k) ≡ hidden_of reached (length survey.behaviours + length survey.functions + k) loop.levels
  loop_hidden k loop is =
      let plain = hidden_from reached (length survey.behaviours) (replicate (length survey.functions) []) in
      let levels = map (λ (l : LoopSurvey). l.levels) survey.loops in
      let behind = hidden_from reached (length survey.behaviours + length survey.functions) levels in
      let long = length-hidden_from reached (length survey.behaviours) (replicate (length survey.functions) []) ∙ length-copied [] (length survey.functions) in
      ap (λ n. or_nothing (slice_get (plain ++ behind) (n + k))) (sym long)
      ∙ ap or_nothing (slice_get-append_right plain behind k
      ∙ hidden_from-at reached (length survey.behaviours + length survey.functions) k loop.levels levels
      (slice_get-map (λ (l : LoopSurvey). l.levels) survey.loops k ∙ ap (λ o. option_map (λ (l : LoopSurvey). l.levels) o) is))

  -- a behaviour hides the globals that its unit reaches
  pub behaviour_hidden : (number : ℕ) → number < length survey.behaviours → hidden_at (layout_of survey reached).behaviours number ≡ hidden_of reached number []
  behaviour_hidden number lt =
      ap or_nothing (hidden_from-at reached 0 number [] (replicate (length survey.behaviours) []) (copied_at [] (length survey.behaviours) number lt))
      ∙ ap (λ n. hidden_of reached n []) (let same : 0 + number ≡ number = omega arith in same)

module _ (survey : TopSurvey) where
  pub behaviour_at : (k : ℕ) (uses : Uses) → slice_get survey.behaviours k ≡ Some uses → slice_get (all_units survey) k ≡ Some uses
  behaviour_at k uses is =
      slice_get-append_left (survey.behaviours ++ survey.functions) (map (λ (l : LoopSurvey). l.uses) survey.loops) k uses (slice_get-append_left survey.behaviours survey.functions k uses is)

  pub function_at : (k : ℕ) (uses : Uses) → slice_get survey.functions k ≡ Some uses → slice_get (all_units survey) (length survey.behaviours + k) ≡ Some uses
  function_at k uses is =
      slice_get-append_left (survey.behaviours ++ survey.functions) (map (λ (l : LoopSurvey). l.uses) survey.loops) (length survey.behaviours + k) uses
      (slice_get-append_right survey.behaviours survey.functions k ∙ is)

  pub loop_at : (k : ℕ) (loop : LoopSurvey) → slice_get survey.loops k ≡ Some loop → slice_get (all_units survey) (length survey.behaviours + length survey.functions + k) ≡ Some loop.uses
  loop_at k loop is =
      let front = survey.behaviours ++ survey.functions in
      let behind = map (λ (l : LoopSurvey). l.uses) survey.loops in
      ap (λ n. slice_get (front ++ behind) (n + k)) (sym (length-append survey.behaviours survey.functions))
      ∙ slice_get-append_right front behind k
      ∙ slice_get-map (λ (l : LoopSurvey). l.uses) survey.loops k ∙ ap (λ o. option_map (λ (l : LoopSurvey). l.uses) o) is
