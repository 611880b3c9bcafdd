-- The program of forms in range fits: its nodes have frames in which each of them fits.
use Rattle.std.proofs.Common.{◌≡◌, ◌∙◌, ℕ, zero, suc, ◌+◌, ◌<◌, ◌↔◌, List, [], ◌∷◌, ◌++◌, length, map, get_or, None, Some, refl, sym, ap, subst, arith, length-append}
use Rattle.std.specs.Prelude.{All, Contains, IfSome}
use Rattle.std.specs.List.{AllZip, slice_get}
use Rattle.std.specs.Option.{option_map}
use Rattle.std.proofs.lemmas.List.Elements.{All-append, All-weaker}
use Rattle.std.proofs.lemmas.Option.{none-some, same_Some, slice_get-map, slice_get_within, slice_get-get_or}
use Rattle.value_core.specs.primitives.Words.{takes_of}
use Rattle.core_syntax.specs.declared.behaviour.Behaviour.{Behaviour}
use Rattle.core_syntax.specs.declared.row.Row.{Row}
use Rattle.core_syntax.specs.declared.step.Step.{Step}
use Rattle.core_syntax.specs.Fits.{AreSizes, IsFitting, NodeFits, TakesAll, function_takes, step_sizes}
use Rattle.core_syntax.specs.Table.{Table, main_row, node_at}
use Rattle.core_syntax.proofs.Appends.{slice_get-push}
use Rattle.core_syntax.proofs.Tables.{node_at-append}
use Rattle.resolved_forms.specs.declared.layout.Hidden.{Hidden}
use Rattle.resolved_forms.specs.declared.survey.LoopSurvey.{LoopSurvey}
use Rattle.resolved_forms.specs.declared.top.Top.{Top}
use Rattle.resolved_forms.specs.declared.top_survey.TopSurvey.{TopSurvey}
use Rattle.resolved_forms.specs.FormsInRange.{FormsInRange, params_of, signatures_of, states_of}
use Rattle.program_plan.specs.Frame.{hidden_at}
use Rattle.program_plan.specs.Lowered.{Parts, no_parts, program_of, with_tops}
use Rattle.resolved_forms.specs.Units.{all_units, hidden_of}
use Rattle.program_plan.specs.Planned.{IsPlanned, Reached, early_in, layout_in}
use Rattle.resolved_forms.specs.TopSurvey.{behaviours_among, tops_surveyed}
use Rattle.program_plan.proofs.Closed.{covered, in_rising}
use Rattle.program_plan.proofs.Fine.{inside_of}
use Rattle.program_plan.proofs.FineExprs.{AreReady}
use Rattle.program_plan.proofs.FineTops.{FineTops, forms_fine, tops_entries, tops_numbered}
use Rattle.program_plan.proofs.Layouts.{function_hidden, loop_hidden, behaviour_hidden, behaviour_at, function_at, loop_at}
use Rattle.program_plan.proofs.Places.{All-found}
use Rattle.program_plan.proofs.Setting.{Setting, FunctionReady, BehaviourReady, Covers, Entry, Ready, Numbered, takes_in, function_hides}
use Rattle.program_plan.proofs.Sized.{HasBody, HaveSizes-more, RowFits, rows_more, rows_append, bodies_more}
use Rattle.program_plan.proofs.Taken.{function_taken, loop_taken, behaviour_held, functions_surveyed, behaviours_surveyed, behaviours_counted}
use Rattle.program_plan.proofs.TopsEnough.{TopsKnown, tops_enough, loops_surveyed, loops_named}
use Rattle.program_plan.proofs.TopsSized.{PartsFit, IsTurned, TopsEnough, parts_fit}

numbered_at : (start end k : ℕ) (entries : List Entry) (entry : Entry) → Numbered start end entries → slice_get entries k ≡ Some entry → entry.own.number ≡ start + k
numbered_at start end k [] entry numbered is = absurd (none-some entry is)
numbered_at start end zero (first ∷ entries) entry numbered is =
    ap (λ (e : Entry). e.own.number) (sym (same_Some first entry is)) ∙ numbered.0 ∙ (let same : start ≡ start + 0 = omega arith in same)
numbered_at start end (suc k) (first ∷ entries) entry numbered is =
    numbered_at (start + 1) end k entries entry numbered.1 is ∙ (let same : start + 1 + k ≡ start + suc k = omega arith in same)

-- what holds of each element with a number holds of all
all_by_number : {X : Type 0} (P : X → Type 0) (xs : List X) → ((k : ℕ) (x : X) → slice_get xs k ≡ Some x → P x) → All P xs
all_by_number P xs each k d lt = each k (get_or xs k d) (slice_get-get_or xs k d lt)

-- what is related place by place is related at each place
zip_at : (w : Setting) (sizes : List ℕ) (rows : List Row) (ns : List ℕ) (k : ℕ) (row : Row) (size : ℕ) → AllZip (RowFits w sizes) rows ns → slice_get rows k ≡ Some row → slice_get ns k ≡ Some size
    → NodeFits takes_of w.table sizes size row.node
zip_at w sizes [] ns k row size fit is_row is_size = absurd (none-some row is_row)
zip_at w sizes (r ∷ rows) [] k row size fit is_row is_size = absurd fit
zip_at w sizes (r ∷ rows) (n ∷ ns) zero row size fit is_row is_size =
    subst (λ (x : Row). NodeFits takes_of w.table sizes size x.node) (same_Some r row is_row) (subst (λ m. NodeFits takes_of w.table sizes m r.node) (same_Some n size is_size) fit.0)
zip_at w sizes (r ∷ rows) (n ∷ ns) (suc k) row size fit is_row is_size = zip_at w sizes rows ns k row size fit.1 is_row is_size

module _ (tops : List Top) (globals : ℕ) (lists : List (List ℕ)) (reached : Reached tops globals lists) (none_early : early_in tops lists ≡ None) where
  abbrev survey : TopSurvey
  survey = tops_surveyed tops

  abbrev w : Setting
  w = record { table = program_of (layout_in tops lists) tops; layout = layout_in tops lists; reached = lists; behaviours = behaviours_among tops; globals = globals }

  behaviours_long : length (tops_surveyed tops).behaviours ≡ behaviours_among tops
  behaviours_long = behaviours_surveyed (behaviours_among tops) 0 tops ∙ sym (behaviours_counted tops)

  functions_long : length (tops_surveyed tops).functions ≡ length (params_of tops)
  functions_long = functions_surveyed (behaviours_among tops) 0 tops

  states_long : length (tops_surveyed tops).behaviours ≡ length (states_of tops)
  states_long = behaviours_surveyed (behaviours_among tops) 0 tops

  function_ready : (number params : ℕ) → slice_get (params_of tops) number ≡ Some params → FunctionReady w number params
  function_ready number params is =
      let lt = slice_get_within (params_of tops) number params is in
      let long = functions_long in
      let hidden = function_hidden survey lists number (omega arith) in
      record {
        takes = function_taken (layout_in tops lists) tops number params is;
        reaches = ap (λ (h : Hidden). h.globals) hidden ∙ ap (λ n. get_or lists (n + number) []) behaviours_long;
        plain = ap (λ (h : Hidden). h.levels) hidden;
      }

  behaviour_ready : (number state : ℕ) → slice_get (states_of tops) number ≡ Some state → BehaviourReady w number state
  behaviour_ready number state is =
      let lt = slice_get_within (states_of tops) number state is in
      let long = states_long in
      let hidden = behaviour_hidden survey lists number (omega arith) in
      record {
        takes = behaviour_held (layout_in tops lists) tops number state is;
        reaches = ap (λ (h : Hidden). h.globals) hidden;
        plain = ap (λ (h : Hidden). h.levels) hidden;
      }

  are_ready : AreReady w (signatures_of tops globals)
  are_ready = record { functions = function_ready; behaviours = behaviour_ready; globals = λ number lt. lt }

  known : TopsKnown w 0 0 0 tops
  known =
      let first : (k : ℕ) → k ≡ 0 + k = λ k. omega arith in
      record {
        functions_ready = λ k params is. subst (λ n. FunctionReady w n params) (first k) (function_ready k params is);
        behaviours_ready = λ k state is. subst (λ n. BehaviourReady w n state) (first k) (behaviour_ready k state is);
        functions_cover = λ k uses is named. covered w (all_units survey) (behaviours_among tops + (0 + k)) uses reached
            (ap (λ n. slice_get (all_units survey) (behaviours_among tops + n)) (sym (first k)) ∙ ap (λ n. slice_get (all_units survey) (n + k)) (sym behaviours_long) ∙ function_at survey k uses is) named;
        behaviours_cover = λ k uses is named. covered w (all_units survey) (0 + k) uses reached
            (ap (slice_get (all_units survey)) (sym (first k)) ∙ behaviour_at survey k uses is) named;
        none_early = none_early;
      }

  module _ (functions end : ℕ) (as_many : functions ≡ length (params_of tops)) (fine : FineTops w 0 functions end tops) where
    abbrev entries : List Entry
    entries = tops_entries w 0 functions end tops fine

    abbrev Known : Type 0
    Known = TopsEnough w 0 0 0 functions end tops fine

    abbrev parts : Parts
    parts = with_tops (layout_in tops lists) no_parts tops

    made : PartsFit w Known parts entries
    made = parts_fit w Known functions end tops fine (λ known. known)

    entry_ready : (k : ℕ) (entry : Entry) → slice_get entries k ≡ Some entry → Ready w entry
    entry_ready k entry is =
        let found : slice_get (map inside_of entries) k ≡ Some entry.inside = slice_get-map inside_of entries k ∙ ap (λ o. option_map inside_of o) is in
        let loop : slice_get (tops_surveyed tops).loops k ≡ Some entry.inside = ap (λ l. slice_get l k) (loops_surveyed w 0 0 functions end tops fine) ∙ found in
        let number = numbered_at functions end k entries entry (tops_numbered w 0 functions end tops fine) is in
        let number_is : entry.own.number ≡ length (tops_surveyed tops).functions + k = number ∙ ap (λ n. n + k) (as_many ∙ sym functions_long) in
        let unit = length survey.behaviours + length survey.functions + k in
        let hides : function_hides w entry.own.number ≡ hidden_of lists (length (tops_surveyed tops).behaviours + length (tops_surveyed tops).functions + k) entry.inside.levels =
        ap (hidden_at (layout_in tops lists).functions) number_is ∙ loop_hidden survey lists k entry.inside loop in
        let unit_is : length (tops_surveyed tops).behaviours + length (tops_surveyed tops).functions + k ≡ behaviours_among tops + entry.own.number = let b = behaviours_long in omega arith in
        let named = All-found (λ (l : LoopSurvey). All (λ g. g < globals) l.uses.globals) (map inside_of entries) k entry.inside (loops_named w 0 functions end tops fine) found in
        record {
          takes = ap (λ n. function_takes (program_of (layout_in tops lists) tops) n (takes_in w entry)) (number ∙ ap (λ n. n + k) as_many)
              ∙ loop_taken (layout_in tops lists) tops (map (takes_in w) entries) k (takes_in w entry) made.takes (slice_get-map (takes_in w) entries k ∙ ap (λ o. option_map (takes_in w) o) is);
          reaches = ap (λ (h : Hidden). h.globals) hides ∙ ap (λ n. get_or lists n []) unit_is;
          covers = subst (λ (h : Hidden). Covers w h.globals entry.inside.uses) (sym hides)
              (covered w (all_units survey) unit entry.inside.uses reached (loop_at survey k entry.inside loop) named);
          levels = λ level. subst (λ (h : Hidden). Contains h.levels level ↔ Contains entry.inside.levels level) (sym hides) (in_rising entry.inside.levels level);
        }

    enough : Known
    enough = tops_enough w 0 0 0 functions end tops fine known (all_by_number (Ready w) entries entry_ready)

    -- the sizes of all nodes, and none for main
    abbrev sizes : List ℕ
    sizes = made.sizes ++ 0 ∷ []

    main_fits : RowFits w (made.sizes ++ 0 ∷ []) (main_row parts.steps) 0
    main_fits = record { itself = refl; inside = HaveSizes-more made.sizes (0 ∷ []) (map (λ (s : Step). s.node) parts.steps) (step_sizes 0 parts.steps) made.steps }

    rows_fit : AllZip (RowFits w (made.sizes ++ 0 ∷ [])) (parts.draft.rows ++ main_row parts.steps ∷ []) (made.sizes ++ 0 ∷ [])
    rows_fit = rows_append w sizes parts.draft.rows (main_row parts.steps ∷ []) made.sizes (0 ∷ []) (rows_more w made.sizes (0 ∷ []) parts.draft.rows made.sizes (made.fit enough)) (main_fits, tt)

    turned : (b : Behaviour) → IsTurned parts.draft.rows b → IfSome (node_at (parts.draft.rows ++ main_row parts.steps ∷ []) b.body) (TakesAll b)
    turned b is = subst (λ o. IfSome o (TakesAll b)) (sym (node_at-append parts.draft.rows (main_row parts.steps ∷ []) b.body _ is.is)) refl

    are_sizes : AreSizes takes_of (program_of (layout_in tops lists) tops) (made.sizes ++ 0 ∷ [])
    are_sizes = record {
      nodes = λ k row size is_row is_size. zip_at w sizes (parts.draft.rows ++ main_row parts.steps ∷ []) sizes k row size rows_fit is_row is_size;
      each = length-append made.sizes (0 ∷ []) ∙ ap (λ n. n + 1) made.each ∙ sym (length-append parts.draft.rows (main_row parts.steps ∷ []));
      main = ap (slice_get sizes) (sym made.each) ∙ slice_get-push made.sizes 0;
      functions = All-append (HasBody sizes) parts.functions parts.draft.loops (bodies_more made.sizes (0 ∷ []) parts.functions made.functions) (bodies_more made.sizes (0 ∷ []) parts.draft.loops made.bodies);
      turns = All-weaker (IsTurned parts.draft.rows) (λ (b : Behaviour). IfSome (node_at (parts.draft.rows ++ main_row parts.steps ∷ []) b.body) (TakesAll b)) turned parts.behaviours made.turns;
    }

    is_fitting : IsFitting takes_of (program_of (layout_in tops lists) tops)
    is_fitting = record { sizes = sizes; are = are_sizes }

-- the program that forms in range are planned to be
pub plan_fits : (tops : List Top) (globals : ℕ) (table : Table) → FormsInRange tops globals → IsPlanned tops globals table → IsFitting takes_of table
plan_fits tops globals table within planned =
    let fine = forms_fine (w tops globals planned.lists planned.reached planned.none_early) (signatures_of tops globals) (are_ready tops globals planned.lists planned.reached planned.none_early)
    0 (length (params_of tops)) within.end tops within.forms in
    subst (λ t. IsFitting takes_of t) (sym planned.is)
    (is_fitting tops globals planned.lists planned.reached planned.none_early (length (params_of tops)) within.end refl fine)
