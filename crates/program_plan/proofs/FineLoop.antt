-- A loop is fine.
use Rattle.std.proofs.Common.{◌≡◌, ◌∙◌, ◌⊎◌, inl, inr, ℕ, ◌+◌, ◌-◌, ◌<◌, ◌≤◌, Bool, true, false, List, [], ◌∷◌, ◌++◌, length, map, take, get_or, refl, sym, ap, subst, arith, append_assoc, append-nil, length-append}
use Rattle.std.specs.Prelude.{Option, Some, All, Contains, nat_lt, filter, cond, ◌&&◌}
use Rattle.std.proofs.Math.Seq.{take-append_seam}
use Rattle.std.proofs.lemmas.Bool.{lt-ltb, ltb-true, and_from, false≢true}
use Rattle.std.proofs.lemmas.List.{map-append, length-map}
use Rattle.std.proofs.lemmas.List.Elements.{All-append, All-cons, All-head, All-tail, All-contains, Contains-append_left, Contains-append_right, filter_passes}
use Rattle.std.proofs.lemmas.Option.{get_or_from_slice_get}
use Rattle.value_core.specs.Place.{Spot}
use Rattle.core_syntax.specs.declared.node.Node.TheVariants as node
use Rattle.core_syntax.specs.declared.node_id.NodeId.{NodeId}
use Rattle.core_syntax.specs.Fits.{HaveSizes, function_takes, all_below}
use Rattle.core_syntax.proofs.Appends.{slice_get-push}
use Rattle.resolved_forms.specs.declared.expr.Expr.{Expr}
use Rattle.resolved_forms.specs.declared.expr.ExprKind.TheVariants as expr
use Rattle.resolved_forms.specs.declared.expr.Looping.{Looping}
use Rattle.resolved_forms.specs.declared.layout.Hidden.{Hidden}
use Rattle.resolved_forms.specs.InRange.{Target, expr_at, one_deeper}
use Rattle.resolved_forms.specs.declared.survey.LoopSurvey.{LoopSurvey}
use Rattle.resolved_forms.specs.declared.survey.Survey.{Survey}
use Rattle.program_plan.specs.Emitted.{Begun, Emitting, emitted, each, local, loop_of, loop_end, loop_function, begun_of}
use Rattle.program_plan.specs.Frame.{frame_of, hidden_places, hidden_count, local_place}
use Rattle.program_plan.specs.Made as made
use Rattle.program_plan.specs.Made.{Making, followed, gathered, in_loop}
use Rattle.resolved_forms.specs.Survey.{nothing, all_of, of_loop, of_loop_parts, own_survey, hidden_levels, surveyed}
use Rattle.resolved_forms.specs.Uses.{function_unit}
use Rattle.program_plan.proofs.Each.{map-push}
use Rattle.program_plan.proofs.Fine.{Fine, FineParts, survey_of, inside_of, entries_of, part_sizes, parts_numbered, parts_surveyed, parts_named, parts_sized}
use Rattle.program_plan.proofs.FineApply.{counted}
use Rattle.program_plan.proofs.FineLeaves.{fine_as}
use Rattle.program_plan.proofs.FineLet.{last_made, let_sizes}
use Rattle.resolved_forms.proofs.Members.{none_in, in_cons, in_head, in_tail}
use Rattle.program_plan.proofs.Parting.{All_first, All_rest, Numbered-append}
use Rattle.program_plan.proofs.Seated.{local_fits, hidden_fit}
use Rattle.program_plan.proofs.Setting.{Setting, Entry, Ready, Enough, Named, size_in, function_hides}
use Rattle.program_plan.proofs.Sized.{Sized, HasSize, HaveSizes-more, HaveSizes-append, length-HaveSizes, sized_node, sized_nothing, sized_followed, sized_then, sized_where, sized_in_loop}
use Rattle.program_plan.proofs.Unfolded.{surveyed_loop, emitted_loop}

-- an element that passes is kept
kept : (p : ℕ → Bool) (x : ℕ) (xs : List ℕ) → Contains xs x → p x ≡ true → Contains (filter p xs) x
kept p x [] there passes = absurd (none_in x there)
kept p x (y ∷ ys) there passes = on (p y) refl (in_cons y x ys there) (λ behind. kept p x ys behind passes)
  where
    on : (b : Bool) → p y ≡ b → (y ≡ x) ⊎ Contains ys x → (Contains ys x → Contains (filter p ys) x) → Contains (cond b (y ∷ filter p ys) (filter p ys)) x
    on true is (inl same) further = subst (λ z. Contains (z ∷ filter p ys) x) (sym same) (in_head x (filter p ys))
    on true is (inr behind) further = in_tail y x (filter p ys) (further behind)
    on false is (inl same) further = absurd (false≢true (sym is ∙ ap p same ∙ passes))
    on false is (inr behind) further = further behind

-- the last of the surveys of some parts, and those before it
loop_surveyed : (w : Setting) (own : Looping) (front : List Expr) (last : Expr)
    → of_loop_parts w.behaviours own (map (surveyed w.behaviours) (front ++ last ∷ [])) ≡ of_loop w.behaviours own (survey_of w front) (surveyed w.behaviours last)
loop_surveyed w own front last =
    let xs = map (surveyed w.behaviours) front in
    let y = surveyed w.behaviours last in
    let n = length (xs ++ y ∷ []) - 1 in
    let long : length (xs ++ y ∷ []) - 1 ≡ length xs = omega (arith, length-append xs (y ∷ [])) in
    let parts : ℕ → Survey = λ k. of_loop w.behaviours own (all_of (take k (xs ++ y ∷ []))) (get_or (xs ++ y ∷ []) k nothing) in
    ap (of_loop_parts w.behaviours own) (map-push (surveyed w.behaviours) front last)
    ∙ ap parts long
    ∙ ap (λ l. of_loop w.behaviours own (all_of l) (get_or (xs ++ y ∷ []) (length xs) nothing)) (take-append_seam xs (y ∷ []))
    ∙ ap (of_loop w.behaviours own (all_of xs)) (get_or_from_slice_get (xs ++ y ∷ []) (length xs) y nothing (slice_get-push xs y))

-- values of one size are children of one size
same_sizes : (n : ℕ) (xs : List ℕ) (sizes : List ℕ) (ids : List NodeId) → HaveSizes sizes ids (map (λ x. n) xs) → HaveSizes sizes ids (map (λ child. n) ids)
same_sizes n [] sizes [] have = tt
same_sizes n [] sizes (id ∷ ids) have = absurd have
same_sizes n (x ∷ xs) sizes [] have = absurd have
same_sizes n (x ∷ xs) sizes (id ∷ ids) have = (have.0, same_sizes n xs sizes ids have.1)

module _ (w : Setting) (Whole : Type 0) (at : Spot) (hidden : Hidden) (base depth deep : ℕ) (known : Whole → (base ≤ depth) × (depth ≤ deep)) where
  -- the locals of some inner levels
  locals_sized : (levels : List ℕ) → ((level : ℕ) → Contains levels level → (depth ≤ level) × (level < deep)) → (number : ℕ) (done : List NodeId) (ns before : List ℕ) → HaveSizes before done ns
      → Sized w Whole (gathered (λ (k : ℕ) (part : Emitting). part (frame_of w.layout hidden base)) number done (map (local at) levels)) before []
      (λ sizes ids. HaveSizes sizes ids (ns ++ map (λ x. size_in hidden base deep) levels))
  locals_sized [] within number done ns before have =
      sized_nothing w Whole done before (λ sizes ids. HaveSizes sizes ids (ns ++ [])) (subst (λ l. HaveSizes before done l) (sym (append-nil ns)) have)
  locals_sized (level ∷ levels) within number done ns before have =
      let frame = frame_of w.layout hidden base in
      let size = size_in hidden base deep in
      let place = local_place frame level in
      let inside = within level (in_head level levels) in
      let outer = inside.0 in
      let lt = inside.1 in
      let due = ns ++ size ∷ map (λ x. size) levels in
      let one : Whole → local_place (frame_of w.layout hidden base) level < size_in hidden base deep = λ whole.
      let le = (known whole).0 in
      let more = (known whole).1 in
      local_fits w.layout hidden base deep level (omega arith) lt (λ below. absurd (omega arith)) in
      sized_followed w Whole (local at level frame) (λ y. gathered (λ (k : ℕ) (p : Emitting). p frame) (number + 1) (done ++ y ∷ []) (map (local at) levels)) before [] [] (HasSize size) (λ sizes ids. HaveSizes sizes ids due)
      (sized_node w Whole at (node.Local place) before size (λ whole. record { itself = lt-ltb place size (one whole); inside = tt }))
      (λ sizes id is.
      let together : HaveSizes (before ++ sizes) (done ++ id ∷ []) (ns ++ size ∷ []) = HaveSizes-append (before ++ sizes) done (id ∷ []) ns (size ∷ []) (HaveSizes-more before sizes done ns have) (is, tt) in
      subst (λ l. Sized w Whole (gathered (λ (k : ℕ) (p : Emitting). p frame) (number + 1) (done ++ id ∷ []) (map (local at) levels)) (before ++ sizes) [] (λ s ids. HaveSizes s ids l))
      (append_assoc ns (size ∷ []) (map (λ x. size) levels))
      (locals_sized levels (λ l there. within l (in_tail level l levels there)) (number + 1) (done ++ id ∷ []) (ns ++ size ∷ []) (before ++ sizes) together))

module _ (w : Setting) (start mid end depth : ℕ) (target : Option Target) (at : Spot) (arguments : List ℕ) (front : List Expr) (last : Expr)
    (as_many : length arguments ≡ length front) (own_levels : (level : ℕ) → Contains arguments level → (depth ≤ level) × (level < depth + length front))
    (bound : FineParts w one_deeper target (start + 1) mid depth front)
    (body : Fine w mid end (depth + length front) (Some (record { number = start; takes = length arguments })) last) where
  abbrev own : Looping
  own = record { number = start; base = depth; arguments = arguments }

  abbrev ahead : Survey
  ahead = survey_of w front

  abbrev behind : Survey
  behind = surveyed w.behaviours last

  abbrev whole : Survey
  whole = of_loop w.behaviours own ahead behind

  abbrev entry : Entry
  entry = record { own = own; inside = own_survey own behind }

  abbrev front_entries : List Entry
  front_entries = entries_of w one_deeper target (start + 1) mid depth front bound

  abbrev entries : List Entry
  entries = entry ∷ front_entries ++ body.entries

  abbrev hides : Hidden
  hides = function_hides w start

  named : Named w whole
  named =
      let ahead_named = parts_named w one_deeper target (start + 1) mid depth front bound in
      record {
        uses = ahead_named.uses;
        inside = All-cons (λ (loop : LoopSurvey). All (λ g. g < w.globals) loop.uses.globals) (own_survey own behind) (ahead.loops ++ behind.loops) body.named.uses
            (All-append (λ (loop : LoopSurvey). All (λ g. g < w.globals) loop.uses.globals) ahead.loops behind.loops ahead_named.inside body.named.inside);
      }

  level_outer : (level : ℕ) → Contains (hidden_levels own behind) level → level < depth
  level_outer level there = ltb-true level depth (All-contains (λ l. nat_lt l depth ≡ true) (hidden_levels own behind) level (filter_passes (λ l. nat_lt l depth) behind.levels) there)

  module _ (hidden : Hidden) (base : ℕ) where
    abbrev Whole : Type 0
    Whole = Enough w hidden base depth target whole entries

    ready : Whole → Ready w entry
    ready enough = All-head (Ready w) entry (front_entries ++ body.entries) enough.ready

    ahead_enough : Whole → Enough w hidden base depth target ahead front_entries
    ahead_enough enough = record {
      within = enough.within;
      covers = record {
        named = enough.covers.named;
        through = λ unit g there reaches. enough.covers.through unit g (Contains-append_left ahead.uses.units (function_unit w.behaviours start ∷ []) unit there) reaches;
      };
      levels = λ level there. enough.levels level (Contains-append_left ahead.levels (hidden_levels own behind) level there);
      ready = All_first (Ready w) front_entries body.entries (All-tail (Ready w) entry (front_entries ++ body.entries) enough.ready);
      target_ready = enough.target_ready;
    }

    body_enough : Whole → Enough w hides depth (depth + length front) (Some (record { number = start; takes = length arguments })) behind body.entries
    body_enough enough =
        let is = ready enough in
        record {
          within = omega arith;
          covers = is.covers;
          levels = λ level there outer. (is.levels level).1 (kept (λ l. nat_lt l depth) level behind.levels there (lt-ltb level depth outer));
          ready = All_rest (Ready w) front_entries body.entries (All-tail (Ready w) entry (front_entries ++ body.entries) enough.ready);
          target_ready = record {
            takes = is.takes;
            globals = λ g there. there;
            levels = λ level there. (level_outer level ((is.levels level).0 there), there);
          };
        }

    -- the call of the loop's function has its hidden arguments
    call_fits : Whole → (ids : List NodeId) → length ids ≡ length arguments
        → (all_below (size_in hidden base (depth + length front)) (hidden_places (frame_of w.layout hidden base) (function_hides w start))
        && function_takes w.table start (length (hidden_places (frame_of w.layout hidden base) (function_hides w start)) + length ids)) ≡ true
    call_fits enough ids long =
        let is = ready enough in
        let within = enough.within in
        and_from _ _
        (hidden_fit w.layout hidden base (depth + length front) hides (omega arith)
        (λ g there. enough.covers.through (function_unit w.behaviours start) g
        (Contains-append_right ahead.uses.units (function_unit w.behaviours start ∷ []) (function_unit w.behaviours start) (in_head (function_unit w.behaviours start) []))
        (subst (λ l. Contains l g) is.reaches there))
        (λ level there.
        let inner = (is.levels level).0 there in
        let lt = level_outer level inner in
        (omega arith, λ outer. enough.levels level (Contains-append_right ahead.levels (hidden_levels own behind) level inner) outer)))
        (counted w hidden base (depth + length front) target (function_takes w.table start) hides ids (length arguments) long is.takes)

    abbrev BegunDue : List ℕ → Begun → Type 0
    BegunDue sizes begun = HaveSizes sizes begun.values (part_sizes hidden base one_deeper depth front) × HasSize (size_in (function_hides w start) depth (depth + length front)) sizes begun.body

    begun_sized : (before : List ℕ)
        → Sized w Whole (in_loop (λ begun. loop_function at (frame_of w.layout hidden base) own begun.body)
        (followed (each (frame_of w.layout hidden base) (map emitted front)) (λ values. followed (emitted last (frame_of w.layout hides depth)) (λ root. made.nothing (begun_of values root))))) before entries BegunDue
    begun_sized before =
        let frame = frame_of w.layout hidden base in
        let inner_frame = frame_of w.layout hides depth in
        let deep = depth + length front in
        let sizes_due = part_sizes hidden base one_deeper depth front in
        let bound_due = λ (sizes : List ℕ) (ids : List NodeId). HaveSizes sizes ids sizes_due in
        let body_size = size_in hides depth deep in
        let body_is : size_in (function_hides w start) depth (depth + length front) ≡ hidden_count (function_hides w start) + length arguments = omega arith in
        sized_in_loop w Whole (λ begun. loop_function at frame own begun.body)
        (followed (each frame (map emitted front)) (λ values. followed (emitted last inner_frame) (λ root. made.nothing (begun_of values root)))) before entry (front_entries ++ body.entries) BegunDue
        (λ sizes begun due. due.1 ∙ ap Some body_is)
        (λ begun. refl)
        (sized_followed w Whole (each frame (map emitted front)) (λ values. followed (emitted last inner_frame) (λ root. made.nothing (begun_of values root))) before front_entries body.entries bound_due BegunDue
        (sized_where w (Enough w hidden base depth target ahead front_entries) Whole (each frame (map emitted front)) before front_entries bound_due ahead_enough
        (parts_sized w one_deeper target (λ n. omega arith) (start + 1) mid depth front bound hidden base 0 [] [] before tt))
        (λ m values have. sized_then w Whole (emitted last inner_frame) (λ root. made.nothing (begun_of values root)) (before ++ m) body.entries (HasSize body_size) BegunDue
        (sized_where w (Enough w hides depth deep (Some (record { number = start; takes = length arguments })) behind body.entries) Whole (emitted last inner_frame) (before ++ m) body.entries (HasSize body_size)
        body_enough (body.makes hides depth (before ++ m)))
        (λ n root is. sized_nothing w Whole (begun_of values root) ((before ++ m) ++ n) BegunDue (HaveSizes-more (before ++ m) n values sizes_due have, is))))

    end_sized : (before : List ℕ) (values : List NodeId) → HaveSizes before values (part_sizes hidden base one_deeper depth front)
        → Sized w Whole (loop_end at (frame_of w.layout hidden base) own values) before [] (HasSize (size_in hidden base depth))
    end_sized before values have =
        let frame = frame_of w.layout hidden base in
        let deep = depth + length front in
        let size = size_in hidden base depth in
        let inner = size_in hidden base deep in
        let sizes_due = part_sizes hidden base one_deeper depth front in
        let levels_due = map (λ (x : ℕ). inner) arguments in
        let call = λ (ids : List NodeId). node.Call start (hidden_places frame hides) ids in
        sized_then w Whole (each frame (map (local at) arguments)) (λ ids. followed (made.node at (call ids)) (λ id. made.node at (node.Let values id))) before [] (λ sizes ids. HaveSizes sizes ids levels_due) (HasSize size)
        (locals_sized w Whole at hidden base depth deep (λ enough. (enough.within, omega arith)) arguments own_levels 0 [] [] before tt)
        (λ m ids have_ids. sized_then w Whole (made.node at (call ids)) (λ id. made.node at (node.Let values id)) (before ++ m) [] (HasSize inner) (HasSize size)
        (sized_node w Whole at (call ids) (before ++ m) inner (λ enough. record {
          itself = call_fits enough ids (length-HaveSizes (before ++ m) ids levels_due have_ids ∙ length-map arguments (λ (x : ℕ). inner));
          inside = same_sizes inner arguments (before ++ m) ids have_ids;
        }))
        (λ n id is. sized_node w Whole at (node.Let values id) ((before ++ m) ++ n) size (λ enough. record {
          itself = refl;
          inside = let_sizes hidden base depth front ((before ++ m) ++ n) values id enough.within
              (HaveSizes-more (before ++ m) n values sizes_due (HaveSizes-more before m values sizes_due have)) is;
        })))

    loop_sized : (before : List ℕ) → Sized w Whole (loop_of at (frame_of w.layout hidden base) own (map emitted front) (emitted last)) before entries (HasSize (size_in hidden base depth))
    loop_sized before =
        let frame = frame_of w.layout hidden base in
        sized_then w Whole
        (in_loop (λ begun. loop_function at frame own begun.body)
        (followed (each frame (map emitted front)) (λ values. followed (emitted last (frame_of w.layout hides depth)) (λ root. made.nothing (begun_of values root)))))
        (λ begun. loop_end at frame own begun.values) before entries BegunDue (HasSize (size_in hidden base depth))
        (begun_sized before)
        (λ m begun due. end_sized (before ++ m) begun.values due.0)

  -- a loop of that number over its initial expressions and its body
  pub fine_loop : Fine w start end depth target (expr_at at (expr.Loop (record { number = start; base = depth; arguments = arguments }) (front ++ last ∷ [])))
  fine_loop =
      fine_as w start end depth target (expr_at at (expr.Loop own (front ++ last ∷ []))) whole (λ frame. loop_of at frame own (map emitted front) (emitted last))
      (surveyed_loop w.behaviours at own (front ++ last ∷ []) ∙ loop_surveyed w own front last)
      (emitted_loop at own (front ++ last ∷ []) ∙ (λ i frame. last_made (made.node at node.Nil) (loop_of at frame own) front last i))
      (record {
        entries = entries;
        numbered = (refl, Numbered-append (start + 1) mid end front_entries body.entries (parts_numbered w one_deeper target (start + 1) mid depth front bound) body.numbered);
        surveys = ap (λ l. own_survey own behind ∷ l)
            (map-append inside_of front_entries body.entries ∙ ap (λ l. l ++ map inside_of body.entries) (parts_surveyed w one_deeper target (start + 1) mid depth front bound) ∙ ap (λ l. ahead.loops ++ l) body.surveys);
        named = named;
        makes = λ hidden base before. loop_sized hidden base before;
      })
