-- The sizes of the frames of a program that is made.
use Rattle.std.proofs.Common.{◌≡◌, ◌∙◌, ℕ, suc, ◌+◌, Bool, true, false, List, [], ◌∷◌, ◌++◌, length, map, Option, None, Some, refl, sym, ap, subst, arith, append_assoc, append-nil, length-append}
use Rattle.std.specs.Prelude.{All, count_by, cond, if◌then◌else◌}
use Rattle.std.specs.List.{AllZip, range_with_len}
use Rattle.std.specs.Option.{option_map}
use Rattle.std.proofs.lemmas.List.{map-append}
use Rattle.std.proofs.lemmas.List.Elements.{All-append, All-push, All-nil, All-weaker}
use Rattle.std.proofs.lemmas.List.FromFn.{length-range_with_len}
use Rattle.std.proofs.lemmas.List.Sums.{sum_by-append, sum_by-cons}
use Rattle.value_core.specs.Place.{Spot}
use Rattle.core_syntax.specs.declared.behaviour.Behaviour.{Behaviour}
use Rattle.core_syntax.specs.declared.function.Function.{Function}
use Rattle.core_syntax.specs.declared.node.Node.{Node}
use Rattle.core_syntax.specs.declared.node.Node.TheVariants.{Turn}
use Rattle.core_syntax.specs.declared.node_id.NodeId.{NodeId}
use Rattle.core_syntax.specs.declared.row.Row.{Row}
use Rattle.core_syntax.specs.declared.step.Step.{Step}
use Rattle.core_syntax.specs.Fits.{HaveSizes, step_sizes}
use Rattle.core_syntax.specs.Table.{node_at}
use Rattle.core_syntax.proofs.Appends.{slice_get-push}
use Rattle.core_syntax.proofs.Tables.{node_at-append}
use Rattle.resolved_forms.specs.declared.layout.Hidden.{Hidden}
use Rattle.resolved_forms.specs.declared.top.Top.{Top}
use Rattle.resolved_forms.specs.declared.top.Reacting.{Reacting}
use Rattle.resolved_forms.specs.declared.top.TopKind.{TopKind}
use Rattle.resolved_forms.specs.declared.top.TopKind.TheVariants as top
use Rattle.program_plan.specs.Emitted.{emitted, turn_of}
use Rattle.program_plan.specs.Frame.{frame_of, hidden_count}
use Rattle.program_plan.specs.Lowered.{Parts, no_parts, main_frame, with_step, with_top, with_tops}
use Rattle.program_plan.specs.Made.{Draft, Making, node, followed, extended, answered}
use Rattle.resolved_forms.specs.Survey.{surveyed}
use Rattle.resolved_forms.specs.FormsInRange.{functions_behind}
use Rattle.program_plan.proofs.FineTops.{FineTop, FineTops, none, more, top_entries, tops_entries}
use Rattle.program_plan.proofs.Setting.{Setting, Entry, Enough, takes_in, size_in, function_hides, behaviour_hides}
use Rattle.program_plan.proofs.Sized.{Sized, MadeFits, HasSize, HasBody, RowFits, HaveSizes-more, HaveSizes-append, rows_more, rows_append, bodies_more, sized_node, sized_then, sized_where}

-- main's globals where so many are bound
abbrev pub main_hidden : ℕ → Hidden
main_hidden count = record { globals = range_with_len 0 count; levels = [] }

-- what is enough for a form, where so many globals are bound and so many functions and behaviours are before it
abbrev pub TopEnough : (w : Setting) (globals functions behaviours start end : ℕ) (kind : TopKind) → FineTop w functions start end kind → Type 0
TopEnough w globals functions behaviours start end (top.Global value) fine = Enough w (main_hidden globals) 0 0 None (surveyed w.behaviours value) fine.entries
TopEnough w globals functions behaviours start end (top.Value value) fine = Enough w (main_hidden globals) 0 0 None (surveyed w.behaviours value) fine.entries
TopEnough w globals functions behaviours start end (top.Function takes inner) fine =
    Enough w (function_hides w functions) 0 takes (Some (record { number = functions; takes = takes })) (surveyed w.behaviours inner) fine.entries
TopEnough w globals functions behaviours start end (top.Behaviour head inner) fine =
    Enough w (behaviour_hides w behaviours) 0 (head.state + head.message) None (surveyed w.behaviours inner) fine.entries

abbrev pub globals_behind : TopKind → ℕ → ℕ
globals_behind (top.Global value) count = count + 1
globals_behind _ count = count

abbrev pub behaviours_behind : TopKind → ℕ → ℕ
behaviours_behind (top.Behaviour head inner) count = count + 1
behaviours_behind _ count = count

abbrev pub TopsEnough : (w : Setting) (globals functions behaviours start end : ℕ) (forms : List Top) → FineTops w functions start end forms → Type 0
TopsEnough w globals functions behaviours start end [] none = Unit {0}
TopsEnough w globals functions behaviours start end (form ∷ forms) (more {mid = mid} first rest) =
    TopEnough w globals functions behaviours start mid form.kind first
    × TopsEnough w (globals_behind form.kind globals) (functions_behind form.kind functions) (behaviours_behind form.kind behaviours) mid end forms rest

-- the body of the behaviour is a turn that takes all
pub record IsTurned (rows : List Row) (behaviour : Behaviour) : Type 0 where
  pub root : NodeId
  pub is : node_at rows behaviour.body ≡ Some (Turn (behaviour.hidden + behaviour.state + behaviour.message) root)

-- These parts have frames of these sizes; their loops are these, and where that is known, each node fits.
pub record PartsFit (w : Setting) (Known : Type 0) (parts : Parts) (entries : List Entry) : Type 0 where
  pub sizes : List ℕ
  pub each : length sizes ≡ length parts.draft.rows
  pub takes : map (λ f. f.takes) parts.draft.loops ≡ map (takes_in w) entries
  pub bodies : All (HasBody sizes) parts.draft.loops
  pub functions : All (HasBody sizes) parts.functions
  pub turns : All (IsTurned parts.draft.rows) parts.behaviours
  pub steps : HaveSizes sizes (map (λ step. step.node) parts.steps) (step_sizes 0 parts.steps)
  pub fit : Known → AllZip (RowFits w sizes) parts.draft.rows sizes

binding_count : List Step → ℕ
binding_count steps = count_by (λ step. step.binds) steps

-- the frame of one more step has the globals that the others bind
step_sizes-push : (n : ℕ) (steps : List Step) (step : Step) → step_sizes n (steps ++ step ∷ []) ≡ step_sizes n steps ++ (n + binding_count steps) ∷ []
unfolding binding_count
step_sizes-push n [] step = let same : n ≡ n + 0 = omega arith in ap (λ k. k ∷ []) same
step_sizes-push n (s ∷ steps) step =
    ap (λ l. n ∷ l) (step_sizes-push (if s.binds then suc n else n) steps step
    ∙ ap (λ k. step_sizes (if s.binds then suc n else n) steps ++ k ∷ []) (on s.binds refl))
  where
    counted : binding_count (s ∷ steps) ≡ cond s.binds 1 0 + binding_count steps
    counted = sum_by-cons (λ (t : Step). cond t.binds 1 0) s steps

    on : (b : Bool) → s.binds ≡ b → (if b then suc n else n) + binding_count steps ≡ n + binding_count (s ∷ steps)
    on true is = let c = counted ∙ ap {B = ℕ} (λ (t : Bool). cond t 1 0 + binding_count steps) is in omega arith
    on false is = let c = counted ∙ ap {B = ℕ} (λ (t : Bool). cond t 1 0 + binding_count steps) is in omega arith

main_size : (count : ℕ) → size_in (main_hidden count) 0 0 ≡ count
main_size count = let long = length-range_with_len 0 count in omega arith

turns_more : (rows others : List Row) (behaviours : List Behaviour) → All (IsTurned rows) behaviours → All (IsTurned (rows ++ others)) behaviours
turns_more rows others behaviours all = All-weaker (IsTurned rows) (IsTurned (rows ++ others)) (λ b turned. record { root = turned.root; is = node_at-append rows others b.body _ turned.is }) behaviours all

-- the last node of a behaviour is its turn
turn_last : (at : Spot) (takes : ℕ) (body : Making NodeId) (draft : Draft)
    → node_at (extended (turn_of at takes body) draft).rows (answered (turn_of at takes body) draft) ≡ Some (Turn takes (body (length draft.rows)).answer)
unfolding extended answered turn_of followed node
turn_last at takes body draft =
    let a = body (length draft.rows) in
    let row : Row = record { node = Turn takes a.answer; at = at } in
    let there : ℕ → List Row → Option Node = λ k rows. node_at rows (record { index = k }) in
    ap (there (length draft.rows + length a.rows)) (sym (append_assoc draft.rows a.rows (row ∷ [])))
    ∙ ap (λ k. there k ((draft.rows ++ a.rows) ++ row ∷ [])) (sym (length-append draft.rows a.rows))
    ∙ ap (λ o. option_map (λ (r : Row). r.node) o) (slice_get-push (draft.rows ++ a.rows) row)

module _ (w : Setting) (Known : Type 0) where
  -- the draft behind something that is made
  record DraftFits (old : List ℕ) (draft : Draft) (entries : List Entry) (IsDue : List ℕ → NodeId → Type 0) (id : NodeId) (behind : Draft) : Type 0 where
    sizes : List ℕ
    grown : (more : List ℕ) × (sizes ≡ old ++ more)
    each : length sizes ≡ length behind.rows
    takes : map (λ f. f.takes) behind.loops ≡ map (takes_in w) entries
    bodies : All (HasBody sizes) behind.loops
    answer : IsDue sizes id
    fit : Known → AllZip (RowFits w sizes) behind.rows sizes

  made_fits : (making : Making NodeId) (parts : Parts) (entries others : List Entry) (IsDue : List ℕ → NodeId → Type 0) → (fits : PartsFit w Known parts entries)
      → Sized w Known making fits.sizes others IsDue → DraftFits fits.sizes parts.draft (entries ++ others) IsDue (answered making parts.draft) (extended making parts.draft)
  unfolding extended answered
  made_fits making parts entries others IsDue fits sized =
      let count = length parts.draft.rows in
      let here : MadeFits w Known (making (length parts.draft.rows)) fits.sizes others IsDue = subst (λ n. MadeFits w Known (making n) fits.sizes others IsDue) fits.each sized in
      let made = making count in
      record {
        sizes = fits.sizes ++ here.sizes;
        grown = (here.sizes, refl);
        each = length-append fits.sizes here.sizes ∙ ap (λ n. n + length here.sizes) fits.each ∙ ap (λ n. count + n) here.each ∙ sym (length-append parts.draft.rows made.rows);
        takes = map-append (λ (f : Function). f.takes) parts.draft.loops made.loops ∙ ap (λ l. l ++ map (λ (f : Function). f.takes) made.loops) fits.takes ∙ ap (λ l. map (takes_in w) entries ++ l) here.takes
            ∙ sym (map-append (takes_in w) entries others);
        bodies = All-append (HasBody (fits.sizes ++ here.sizes)) parts.draft.loops made.loops (bodies_more fits.sizes here.sizes parts.draft.loops fits.bodies) here.bodies;
        answer = here.answer;
        fit = λ known. rows_append w (fits.sizes ++ here.sizes) parts.draft.rows made.rows fits.sizes here.sizes (rows_more w fits.sizes here.sizes parts.draft.rows fits.sizes (fits.fit known)) (here.fit known);
      }

  behind_rows : (making : Making NodeId) (draft : Draft) → (extended making draft).rows ≡ draft.rows ++ (making (length draft.rows)).rows
  unfolding extended
  behind_rows making draft = refl

  turns_kept : (making : Making NodeId) (draft : Draft) (behaviours : List Behaviour) → All (IsTurned draft.rows) behaviours → All (IsTurned (extended making draft).rows) behaviours
  turns_kept making draft behaviours all = subst (λ l. All (IsTurned l) behaviours) (sym (behind_rows making draft)) (turns_more draft.rows (making (length draft.rows)).rows behaviours all)

  -- one more step of main
  step_fits : (making : Making NodeId) (parts : Parts) (entries others : List Entry) (binds : Bool) (fits : PartsFit w Known parts entries)
      → Sized w Known making fits.sizes others (HasSize (size_in (main_hidden (binding_count parts.steps)) 0 0))
      → PartsFit w Known (with_step parts (extended making parts.draft) (answered making parts.draft) binds) (entries ++ others)
  step_fits making parts entries others binds fits sized =
      let count = binding_count parts.steps in
      let id = answered making parts.draft in
      let step : Step = record { node = id; binds = binds } in
      let nodes = map (λ (s : Step). s.node) parts.steps in
      let draft = made_fits making parts entries others (HasSize (size_in (main_hidden count) 0 0)) fits sized in
      let grown = λ (P : List ℕ → Type 0) (kept : P (fits.sizes ++ draft.grown.0)). subst P (sym draft.grown.1) kept in
      let last : HasSize (0 + binding_count parts.steps) draft.sizes id = subst (λ n. HasSize n draft.sizes id) (main_size count ∙ (let none : binding_count parts.steps ≡ 0 + binding_count parts.steps = omega arith in none)) draft.answer in
      record {
        sizes = draft.sizes;
        each = draft.each;
        takes = draft.takes;
        bodies = draft.bodies;
        functions = grown (λ l. All (HasBody l) parts.functions) (bodies_more fits.sizes draft.grown.0 parts.functions fits.functions);
        turns = turns_kept making parts.draft parts.behaviours fits.turns;
        steps = subst (λ l. HaveSizes draft.sizes l (step_sizes 0 (parts.steps ++ step ∷ []))) (sym (map-append (λ (s : Step). s.node) parts.steps (step ∷ [])))
            (subst (λ l. HaveSizes draft.sizes (nodes ++ id ∷ []) l) (sym (step_sizes-push 0 parts.steps step))
            (HaveSizes-append draft.sizes nodes (id ∷ []) (step_sizes 0 parts.steps) ((0 + count) ∷ [])
            (grown (λ l. HaveSizes l nodes (step_sizes 0 parts.steps)) (HaveSizes-more fits.sizes draft.grown.0 nodes (step_sizes 0 parts.steps) fits.steps)) (last, tt)));
        fit = draft.fit;
      }

  -- one more function
  function_fits : (at : Spot) (takes : ℕ) (making : Making NodeId) (parts : Parts) (entries others : List Entry) (fits : PartsFit w Known parts entries)
      → Sized w Known making fits.sizes others (HasSize (size_in (function_hides w (length parts.functions)) 0 takes))
      → PartsFit w Known (record {
        draft = extended making parts.draft;
        behaviours = parts.behaviours;
        steps = parts.steps;
        functions = parts.functions ++ record { at = at; takes = hidden_count (function_hides w (length parts.functions)) + takes; body = answered making parts.draft } ∷ [];
      }) (entries ++ others)
  function_fits at takes making parts entries others fits sized =
      let hides = function_hides w (length parts.functions) in
      let id = answered making parts.draft in
      let function : Function = record { at = at; takes = hidden_count hides + takes; body = id } in
      let nodes = map (λ (s : Step). s.node) parts.steps in
      let draft = made_fits making parts entries others (HasSize (size_in hides 0 takes)) fits sized in
      let grown = λ (P : List ℕ → Type 0) (kept : P (fits.sizes ++ draft.grown.0)). subst P (sym draft.grown.1) kept in
      let last : HasSize (hidden_count (function_hides w (length parts.functions)) + takes) draft.sizes id =
      subst (λ n. HasSize n draft.sizes id) (let same : size_in (function_hides w (length parts.functions)) 0 takes ≡ hidden_count (function_hides w (length parts.functions)) + takes = omega arith in same) draft.answer in
      record {
        sizes = draft.sizes;
        each = draft.each;
        takes = draft.takes;
        bodies = draft.bodies;
        functions = All-push (HasBody draft.sizes) parts.functions function (grown (λ l. All (HasBody l) parts.functions) (bodies_more fits.sizes draft.grown.0 parts.functions fits.functions)) last;
        turns = turns_kept making parts.draft parts.behaviours fits.turns;
        steps = grown (λ l. HaveSizes l nodes (step_sizes 0 parts.steps)) (HaveSizes-more fits.sizes draft.grown.0 nodes (step_sizes 0 parts.steps) fits.steps);
        fit = draft.fit;
      }

  -- one more behaviour
  behaviour_fits : (head : Reacting) (body : Making NodeId) (parts : Parts) (entries others : List Entry) (fits : PartsFit w Known parts entries)
      → Sized w Known (turn_of head.at (hidden_count (behaviour_hides w (length parts.behaviours)) + head.state + head.message) body) fits.sizes others (HasSize 0)
      → PartsFit w Known (record {
        draft = extended (turn_of head.at (hidden_count (behaviour_hides w (length parts.behaviours)) + head.state + head.message) body) parts.draft;
        functions = parts.functions;
        steps = parts.steps;
        behaviours = parts.behaviours ++ record {
          at = head.at;
          hidden = hidden_count (behaviour_hides w (length parts.behaviours));
          state = head.state;
          message = head.message;
          body = answered (turn_of head.at (hidden_count (behaviour_hides w (length parts.behaviours)) + head.state + head.message) body) parts.draft;
        } ∷ [];
      }) (entries ++ others)
  behaviour_fits head body parts entries others fits sized =
      let hides = behaviour_hides w (length parts.behaviours) in
      let takes = hidden_count hides + head.state + head.message in
      let making = turn_of head.at takes body in
      let behaviour : Behaviour = record { at = head.at; hidden = hidden_count hides; state = head.state; message = head.message; body = answered making parts.draft } in
      let nodes = map (λ (s : Step). s.node) parts.steps in
      let draft = made_fits making parts entries others (HasSize 0) fits sized in
      let grown = λ (P : List ℕ → Type 0) (kept : P (fits.sizes ++ draft.grown.0)). subst P (sym draft.grown.1) kept in
      record {
        sizes = draft.sizes;
        each = draft.each;
        takes = draft.takes;
        bodies = draft.bodies;
        functions = grown (λ l. All (HasBody l) parts.functions) (bodies_more fits.sizes draft.grown.0 parts.functions fits.functions);
        turns = All-push (IsTurned (extended making parts.draft).rows) parts.behaviours behaviour (turns_kept making parts.draft parts.behaviours fits.turns)
            (record { root = (body (length parts.draft.rows)).answer; is = turn_last head.at takes body parts.draft });
        steps = grown (λ l. HaveSizes l nodes (step_sizes 0 parts.steps)) (HaveSizes-more fits.sizes draft.grown.0 nodes (step_sizes 0 parts.steps) fits.steps);
        fit = draft.fit;
      }

  -- a turn round a body
  turn_sized : (at : Spot) (hides : Hidden) (state message : ℕ) (body : Making NodeId) (before : List ℕ) (entries : List Entry)
      → Sized w Known body before entries (HasSize (size_in hides 0 (state + message))) → Sized w Known (turn_of at (hidden_count hides + state + message) body) before entries (HasSize 0)
  unfolding turn_of
  turn_sized at hides state message body before entries sized =
      let takes = hidden_count hides + state + message in
      sized_then w Known body (λ id. node at (Turn takes id)) before entries (HasSize (size_in hides 0 (state + message))) (HasSize 0) sized
      (λ others id is. sized_node w Known at (Turn takes id) (before ++ others) 0 (λ known. record {
        itself = refl;
        inside = (subst (λ n. HasSize n (before ++ others) id) (let same : size_in hides 0 (state + message) ≡ hidden_count hides + state + message = omega arith in same) is, tt);
      }))

  top_fits : (parts : Parts) (entries : List Entry) (fits : PartsFit w Known parts entries) (start end : ℕ) (at : Spot) (kind : TopKind) (fine : FineTop w (length parts.functions) start end kind)
      → (Known → TopEnough w (binding_count parts.steps) (length parts.functions) (length parts.behaviours) start end kind fine)
      → PartsFit w Known (with_top w.layout parts (record { at = at; kind = kind })) (entries ++ top_entries w (length parts.functions) start end kind fine)
  unfolding binding_count
  top_fits parts entries fits start end at (top.Global value) fine knows =
      let count = binding_count parts.steps in
      step_fits (emitted value (main_frame w.layout parts.steps)) parts entries fine.entries true fits
      (sized_where w (Enough w (main_hidden count) 0 0 None (surveyed w.behaviours value) fine.entries) Known (emitted value (main_frame w.layout parts.steps)) fits.sizes fine.entries (HasSize (size_in (main_hidden count) 0 0))
      knows (fine.makes (main_hidden count) 0 fits.sizes))
  top_fits parts entries fits start end at (top.Value value) fine knows =
      let count = binding_count parts.steps in
      step_fits (emitted value (main_frame w.layout parts.steps)) parts entries fine.entries false fits
      (sized_where w (Enough w (main_hidden count) 0 0 None (surveyed w.behaviours value) fine.entries) Known (emitted value (main_frame w.layout parts.steps)) fits.sizes fine.entries (HasSize (size_in (main_hidden count) 0 0))
      knows (fine.makes (main_hidden count) 0 fits.sizes))
  top_fits parts entries fits start end at (top.Function takes inner) fine knows =
      let number = length parts.functions in
      let hides = function_hides w number in
      let making = emitted inner (frame_of w.layout hides 0) in
      function_fits at takes making parts entries fine.entries fits
      (sized_where w (Enough w hides 0 takes (Some (record { number = length parts.functions; takes = takes })) (surveyed w.behaviours inner) fine.entries) Known making fits.sizes fine.entries (HasSize (size_in hides 0 takes))
      knows (fine.makes hides 0 fits.sizes))
  top_fits parts entries fits start end at (top.Behaviour head inner) fine knows =
      let hides = behaviour_hides w (length parts.behaviours) in
      let making = emitted inner (frame_of w.layout hides 0) in
      behaviour_fits head making parts entries fine.entries fits
      (turn_sized head.at hides head.state head.message making fits.sizes fine.entries
      (sized_where w (Enough w hides 0 (head.state + head.message) None (surveyed w.behaviours inner) fine.entries) Known making fits.sizes fine.entries (HasSize (size_in hides 0 (head.state + head.message)))
      knows (fine.makes hides 0 fits.sizes)))

  -- how many of each there are
  record Counts (parts : Parts) (globals functions behaviours : ℕ) : Type 0 where
    globals_are : binding_count parts.steps ≡ globals
    functions_are : length parts.functions ≡ functions
    behaviours_are : length parts.behaviours ≡ behaviours

  top_fits_at : (parts : Parts) (entries : List Entry) (fits : PartsFit w Known parts entries) (start end : ℕ) (at : Spot) (kind : TopKind) (globals functions behaviours : ℕ) → Counts parts globals functions behaviours
      → (fine : FineTop w functions start end kind) → (Known → TopEnough w globals functions behaviours start end kind fine)
      → PartsFit w Known (with_top w.layout parts (record { at = at; kind = kind })) (entries ++ top_entries w functions start end kind fine)
  top_fits_at parts entries fits start end at kind globals functions behaviours counts =
      subst (λ g. (fine : FineTop w functions start end kind) → (Known → TopEnough w g functions behaviours start end kind fine)
      → PartsFit w Known (with_top w.layout parts (record { at = at; kind = kind })) (entries ++ top_entries w functions start end kind fine)) counts.globals_are
      (subst (λ b. (fine : FineTop w functions start end kind) → (Known → TopEnough w (binding_count parts.steps) functions b start end kind fine)
      → PartsFit w Known (with_top w.layout parts (record { at = at; kind = kind })) (entries ++ top_entries w functions start end kind fine)) counts.behaviours_are
      (subst (λ f. (fine : FineTop w f start end kind) → (Known → TopEnough w (binding_count parts.steps) f (length parts.behaviours) start end kind fine)
      → PartsFit w Known (with_top w.layout parts (record { at = at; kind = kind })) (entries ++ top_entries w f start end kind fine)) counts.functions_are
      (top_fits parts entries fits start end at kind)))

  bound_more : (steps : List Step) (id : NodeId) (binds : Bool) → binding_count (steps ++ record { node = id; binds = binds } ∷ []) ≡ binding_count steps + cond binds 1 0
  unfolding binding_count
  bound_more steps id binds =
      let more = sum_by-append (λ (s : Step). cond s.binds 1 0) steps (record { node = id; binds = binds } ∷ []) in
      more ∙ ap (λ n. binding_count steps + n) (let none : 0 + cond binds 1 0 ≡ cond binds 1 0 = omega arith in none)

  counts_behind : (parts : Parts) (at : Spot) (kind : TopKind) (globals functions behaviours : ℕ) → Counts parts globals functions behaviours
      → Counts (with_top w.layout parts (record { at = at; kind = kind })) (globals_behind kind globals) (functions_behind kind functions) (behaviours_behind kind behaviours)
  counts_behind parts at (top.Global value) globals functions behaviours counts = record {
    globals_are = bound_more parts.steps _ true ∙ ap (λ n. n + 1) counts.globals_are;
    functions_are = counts.functions_are;
    behaviours_are = counts.behaviours_are;
  }
  counts_behind parts at (top.Value value) globals functions behaviours counts = record {
    globals_are = bound_more parts.steps _ false ∙ (let none : binding_count parts.steps + 0 ≡ binding_count parts.steps = omega arith in none) ∙ counts.globals_are;
    functions_are = counts.functions_are;
    behaviours_are = counts.behaviours_are;
  }
  counts_behind parts at (top.Function takes inner) globals functions behaviours counts = record {
    globals_are = counts.globals_are;
    functions_are = length-append parts.functions _ ∙ ap (λ n. n + 1) counts.functions_are;
    behaviours_are = counts.behaviours_are;
  }
  counts_behind parts at (top.Behaviour head inner) globals functions behaviours counts = record {
    globals_are = counts.globals_are;
    functions_are = counts.functions_are;
    behaviours_are = length-append parts.behaviours _ ∙ ap (λ n. n + 1) counts.behaviours_are;
  }

  tops_fit : (parts : Parts) (entries : List Entry) (globals functions behaviours start end : ℕ) (forms : List Top) (fine : FineTops w functions start end forms) → Counts parts globals functions behaviours
      → (Known → TopsEnough w globals functions behaviours start end forms fine) → PartsFit w Known parts entries
      → PartsFit w Known (with_tops w.layout parts forms) (entries ++ tops_entries w functions start end forms fine)
  tops_fit parts entries globals functions behaviours start end [] none counts knows fits = subst (λ l. PartsFit w Known parts l) (sym (append-nil entries)) fits
  tops_fit parts entries globals functions behaviours start end (form ∷ forms) (more {mid = mid} first rest) counts knows fits =
      let own = top_entries w functions start mid form.kind first in
      let left = tops_entries w (functions_behind form.kind functions) mid end forms rest in
      let step = top_fits_at parts entries fits start mid form.at form.kind globals functions behaviours counts first (λ known. (knows known).0) in
      subst (λ l. PartsFit w Known (with_tops w.layout (with_top w.layout parts form) forms) l) (append_assoc entries own left)
      (tops_fit (with_top w.layout parts form) (entries ++ own) (globals_behind form.kind globals) (functions_behind form.kind functions) (behaviours_behind form.kind behaviours) mid end forms rest
      (counts_behind parts form.at form.kind globals functions behaviours counts) (λ known. (knows known).1) step)

  -- the parts of all forms
  pub parts_fit : (start end : ℕ) (forms : List Top) (fine : FineTops w 0 start end forms) → (Known → TopsEnough w 0 0 0 start end forms fine) → PartsFit w Known (with_tops w.layout no_parts forms) (tops_entries w 0 start end forms fine)
  unfolding binding_count
  parts_fit start end forms fine knows =
      tops_fit no_parts [] 0 0 0 start end forms fine (record { globals_are = refl; functions_are = refl; behaviours_are = refl }) knows (record {
        sizes = [];
        each = refl;
        takes = refl;
        bodies = All-nil (HasBody []);
        functions = All-nil (HasBody []);
        turns = All-nil (IsTurned []);
        steps = tt;
        fit = λ known. tt;
      })
