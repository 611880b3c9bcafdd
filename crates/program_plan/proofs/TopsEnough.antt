-- What is known of a program is enough for each of its forms.
use Rattle.std.proofs.Common.{◌≡◌, ◌∙◌, inl, inr, ℕ, suc, ◌+◌, ◌<◌, Bool, true, false, if◌then◌else◌, List, [], ◌∷◌, ◌++◌, map, get_or, Option, None, Some, refl, sym, ap, subst, arith}
use Rattle.std.specs.Prelude.{All, Contains}
use Rattle.std.specs.List.{slice_get, range_with_len}
use Rattle.std.proofs.lemmas.Bool.{cases_lt, false≢true}
use Rattle.std.proofs.lemmas.List.{map-append}
use Rattle.std.proofs.lemmas.List.Elements.{All-append, All-nil}
use Rattle.std.proofs.lemmas.List.FromFn.{get_or-range_with_len, length-range_with_len}
use Rattle.value_core.specs.Place.{Spot}
use Rattle.resolved_forms.specs.declared.survey.LoopSurvey.{LoopSurvey}
use Rattle.resolved_forms.specs.declared.top.Top.{Top}
use Rattle.resolved_forms.specs.declared.top.TopKind.{TopKind}
use Rattle.resolved_forms.specs.declared.top.TopKind.TheVariants as top
use Rattle.resolved_forms.specs.declared.top_survey.FormSurvey.{FormSurvey}
use Rattle.resolved_forms.specs.declared.uses.Uses.{Uses}
use Rattle.early_globals.specs.Early.{IsEarly, is_early, first_early}
use Rattle.resolved_forms.specs.Survey.{surveyed}
use Rattle.resolved_forms.specs.FormsInRange.{functions_behind, params_of, states_of}
use Rattle.resolved_forms.specs.TopSurvey.{tops_from}
use Rattle.resolved_forms.specs.Uses.{function_unit}
use Rattle.early_globals.proofs.EarlyForms.{early_is}
use Rattle.program_plan.proofs.Fine.{inside_of}
use Rattle.program_plan.proofs.FineTops.{FineTop, FineTops, none, more, top_entries, tops_entries}
use Rattle.resolved_forms.proofs.Members.{none_in}
use Rattle.program_plan.proofs.Parting.{All_first, All_rest}
use Rattle.program_plan.proofs.Setting.{Setting, FunctionReady, BehaviourReady, Covers, Ready}
use Rattle.program_plan.proofs.TopsSized.{TopEnough, TopsEnough, globals_behind, behaviours_behind}

-- What is known of forms, where so many globals, functions and behaviours are before them: their functions and behaviours
-- are there, each unit covers what it names, and no form is early.
pub record TopsKnown (w : Setting) (globals functions behaviours : ℕ) (forms : List Top) : Type 0 where
  pub functions_ready : (k params : ℕ) → slice_get (params_of forms) k ≡ Some params → FunctionReady w (functions + k) params
  pub behaviours_ready : (k state : ℕ) → slice_get (states_of forms) k ≡ Some state → BehaviourReady w (behaviours + k) state
  pub functions_cover : (k : ℕ) (uses : Uses) → slice_get (tops_from w.behaviours globals forms).functions k ≡ Some uses → All (λ g. g < w.globals) uses.globals
      → Covers w (get_or w.reached (function_unit w.behaviours (functions + k)) []) uses
  pub behaviours_cover : (k : ℕ) (uses : Uses) → slice_get (tops_from w.behaviours globals forms).behaviours k ≡ Some uses → All (λ g. g < w.globals) uses.globals
      → Covers w (get_or w.reached (behaviours + k) []) uses
  pub none_early : first_early (tops_from w.behaviours globals forms).forms w.reached ≡ None

-- the first of some forms is not early, nor are the others
not_early : (b : Bool) (at : Spot) (rest : Option Spot) → (if b then Some at else rest) ≡ None → (b ≡ false) × (rest ≡ None)
not_early true at rest is = absurd (cc)
not_early false at rest is = (refl, is)

in_range : (count n : ℕ) → n < count → Contains (range_with_len 0 count) n
in_range count n lt =
    let long = length-range_with_len 0 count in
    (n, omega arith, get_or-range_with_len 0 count n n lt ∙ (let same : 0 + n ≡ n = omega arith in same))

-- the globals that are bound cover a form that is not early
main_covers : (w : Setting) (form : FormSurvey) → is_early w.reached form ≡ false → Covers w (range_with_len 0 form.before) form.uses
main_covers w form late =
    let never : IsEarly w.reached form → ⊥ = λ early. false≢true (sym late ∙ (early_is w.reached form).1 early) in
    record {
      named = λ g there. elim (cases_lt g form.before) [ inl lt ↦ in_range form.before g lt | inr ge ↦ absurd (never (g, inl there, ge)) ];
      through = λ unit g there reaches. elim (cases_lt g form.before) [ inl lt ↦ in_range form.before g lt | inr ge ↦ absurd (never (g, inr (unit, there, reaches), ge)) ];
    }

module _ (w : Setting) where
  known_behind : (globals functions behaviours : ℕ) (at : Spot) (kind : TopKind) (forms : List Top) → TopsKnown w globals functions behaviours (record { at = at; kind = kind } ∷ forms)
      → TopsKnown w (globals_behind kind globals) (functions_behind kind functions) (behaviours_behind kind behaviours) forms
  known_behind globals functions behaviours at (top.Global value) forms known = record {
    functions_ready = known.functions_ready;
    behaviours_ready = known.behaviours_ready;
    functions_cover = known.functions_cover;
    behaviours_cover = known.behaviours_cover;
    none_early = (not_early _ at _ known.none_early).1;
  }
  known_behind globals functions behaviours at (top.Value value) forms known = record {
    functions_ready = known.functions_ready;
    behaviours_ready = known.behaviours_ready;
    functions_cover = known.functions_cover;
    behaviours_cover = known.behaviours_cover;
    none_early = (not_early _ at _ known.none_early).1;
  }
  known_behind globals functions behaviours at (top.Function takes inner) forms known =
      let next : (k : ℕ) → functions + suc k ≡ functions + 1 + k = λ k. omega arith in
      record {
        functions_ready = λ k params is. subst (λ n. FunctionReady w n params) (next k) (known.functions_ready (suc k) params is);
        behaviours_ready = known.behaviours_ready;
        functions_cover = λ k uses is named. subst (λ n. Covers w (get_or w.reached (function_unit w.behaviours n) []) uses) (next k) (known.functions_cover (suc k) uses is named);
        behaviours_cover = known.behaviours_cover;
        none_early = known.none_early;
      }
  known_behind globals functions behaviours at (top.Behaviour head inner) forms known =
      let next : (k : ℕ) → behaviours + suc k ≡ behaviours + 1 + k = λ k. omega arith in
      record {
        functions_ready = known.functions_ready;
        behaviours_ready = λ k state is. subst (λ n. BehaviourReady w n state) (next k) (known.behaviours_ready (suc k) state is);
        functions_cover = known.functions_cover;
        behaviours_cover = λ k uses is named. subst (λ n. Covers w (get_or w.reached n []) uses) (next k) (known.behaviours_cover (suc k) uses is named);
        none_early = known.none_early;
      }

  top_enough : (globals functions behaviours start end : ℕ) (at : Spot) (kind : TopKind) (forms : List Top) (fine : FineTop w functions start end kind)
      → TopsKnown w globals functions behaviours (record { at = at; kind = kind } ∷ forms) → All (Ready w) (top_entries w functions start end kind fine)
      → TopEnough w globals functions behaviours start end kind fine
  top_enough globals functions behaviours start end at (top.Global value) forms fine known ready = record {
    within = omega arith;
    covers = main_covers w (record { at = at; before = globals; uses = (surveyed w.behaviours value).uses }) (not_early _ at _ known.none_early).0;
    levels = λ level there outer. absurd (omega arith);
    ready = ready;
    target_ready = tt;
  }
  top_enough globals functions behaviours start end at (top.Value value) forms fine known ready = record {
    within = omega arith;
    covers = main_covers w (record { at = at; before = globals; uses = (surveyed w.behaviours value).uses }) (not_early _ at _ known.none_early).0;
    levels = λ level there outer. absurd (omega arith);
    ready = ready;
    target_ready = tt;
  }
  top_enough globals functions behaviours start end at (top.Function takes inner) forms fine known ready =
      let same : functions + 0 ≡ functions = omega arith in
      let own = subst (λ n. FunctionReady w n takes) same (known.functions_ready 0 takes refl) in
      let uses = (surveyed w.behaviours inner).uses in
      let covers = subst (λ n. Covers w (get_or w.reached (function_unit w.behaviours n) []) uses) same (known.functions_cover 0 uses refl fine.named.uses) in
      record {
        within = omega arith;
        covers = subst (λ l. Covers w l uses) (sym own.reaches) covers;
        levels = λ level there outer. absurd (omega arith);
        ready = ready;
        target_ready = record {
          takes = own.takes;
          globals = λ g there. there;
          levels = λ level there. absurd (none_in level (subst (λ l. Contains l level) own.plain there));
        };
      }
  top_enough globals functions behaviours start end at (top.Behaviour head inner) forms fine known ready =
      let same : behaviours + 0 ≡ behaviours = omega arith in
      let own = subst (λ n. BehaviourReady w n head.state) same (known.behaviours_ready 0 head.state refl) in
      let uses = (surveyed w.behaviours inner).uses in
      let covers = subst (λ n. Covers w (get_or w.reached n []) uses) same (known.behaviours_cover 0 uses refl fine.named.uses) in
      record {
        within = omega arith;
        covers = subst (λ l. Covers w l uses) (sym own.reaches) covers;
        levels = λ level there outer. absurd (omega arith);
        ready = ready;
        target_ready = tt;
      }

  -- what is known is enough for all forms
  pub tops_enough : (globals functions behaviours start end : ℕ) (forms : List Top) (fine : FineTops w functions start end forms)
      → TopsKnown w globals functions behaviours forms → All (Ready w) (tops_entries w functions start end forms fine) → TopsEnough w globals functions behaviours start end forms fine
  tops_enough globals functions behaviours start end [] none known ready = tt
  tops_enough globals functions behaviours start end (form ∷ forms) (more {mid = mid} first rest) known ready =
      let own = top_entries w functions start mid form.kind first in
      let left = tops_entries w (functions_behind form.kind functions) mid end forms rest in (
        top_enough globals functions behaviours start mid form.at form.kind forms first known (All_first (Ready w) own left ready),
        tops_enough (globals_behind form.kind globals) (functions_behind form.kind functions) (behaviours_behind form.kind behaviours) mid end forms rest
            (known_behind globals functions behaviours form.at form.kind forms known) (All_rest (Ready w) own left ready),
      )

  -- the loops of all forms are those that a survey finds, and what they name is named
  loops_first : (globals functions start end : ℕ) (at : Spot) (kind : TopKind) (forms : List Top) (fine : FineTop w functions start end kind)
      → (tops_from w.behaviours globals (record { at = at; kind = kind } ∷ forms)).loops ≡ map inside_of (top_entries w functions start end kind fine) ++ (tops_from w.behaviours (globals_behind kind globals) forms).loops
  loops_first globals functions start end at (top.Global value) forms fine = ap (λ l. l ++ (tops_from w.behaviours (globals + 1) forms).loops) (sym fine.surveys)
  loops_first globals functions start end at (top.Value value) forms fine = ap (λ l. l ++ (tops_from w.behaviours globals forms).loops) (sym fine.surveys)
  loops_first globals functions start end at (top.Function takes inner) forms fine = ap (λ l. l ++ (tops_from w.behaviours globals forms).loops) (sym fine.surveys)
  loops_first globals functions start end at (top.Behaviour head inner) forms fine = ap (λ l. l ++ (tops_from w.behaviours globals forms).loops) (sym fine.surveys)

  pub loops_surveyed : (globals functions start end : ℕ) (forms : List Top) (fine : FineTops w functions start end forms)
      → (tops_from w.behaviours globals forms).loops ≡ map inside_of (tops_entries w functions start end forms fine)
  loops_surveyed globals functions start end [] none = refl
  loops_surveyed globals functions start end (form ∷ forms) (more {mid = mid} first rest) =
      let own = top_entries w functions start mid form.kind first in
      let left = tops_entries w (functions_behind form.kind functions) mid end forms rest in
      loops_first globals functions start mid form.at form.kind forms first
      ∙ ap (λ l. map inside_of own ++ l) (loops_surveyed (globals_behind form.kind globals) (functions_behind form.kind functions) mid end forms rest)
      ∙ sym (map-append inside_of own left)

  abbrev IsNamed : LoopSurvey → Type 0
  IsNamed loop = All (λ g. g < w.globals) loop.uses.globals

  top_named : (functions start end : ℕ) (kind : TopKind) (fine : FineTop w functions start end kind) → All IsNamed (map inside_of (top_entries w functions start end kind fine))
  top_named functions start end (top.Global value) fine = subst (λ l. All IsNamed l) (sym fine.surveys) fine.named.inside
  top_named functions start end (top.Value value) fine = subst (λ l. All IsNamed l) (sym fine.surveys) fine.named.inside
  top_named functions start end (top.Function takes inner) fine = subst (λ l. All IsNamed l) (sym fine.surveys) fine.named.inside
  top_named functions start end (top.Behaviour head inner) fine = subst (λ l. All IsNamed l) (sym fine.surveys) fine.named.inside

  pub loops_named : (functions start end : ℕ) (forms : List Top) (fine : FineTops w functions start end forms)
      → All (λ loop. All (λ g. g < w.globals) loop.uses.globals) (map inside_of (tops_entries w functions start end forms fine))
  loops_named functions start end [] none = All-nil IsNamed
  loops_named functions start end (form ∷ forms) (more {mid = mid} first rest) =
      let own = top_entries w functions start mid form.kind first in
      let left = tops_entries w (functions_behind form.kind functions) mid end forms rest in
      subst (λ l. All IsNamed l) (sym (map-append inside_of own left))
      (All-append IsNamed (map inside_of own) (map inside_of left) (top_named functions start mid form.kind first) (loops_named (functions_behind form.kind functions) mid end forms rest))
