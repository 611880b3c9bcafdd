-- A let is fine.
use Rattle.std.proofs.Common.{◌≡◌, ◌∙◌, ℕ, suc, ◌+◌, ◌≤◌, List, [], ◌∷◌, ◌++◌, length, map, refl, sym, ap, subst, arith}
use Rattle.std.specs.Prelude.{Option}
use Rattle.std.proofs.lemmas.List.{map-append}
use Rattle.value_core.specs.Place.{Spot}
use Rattle.core_syntax.specs.declared.node.Node.TheVariants.{Nil, Let}
use Rattle.core_syntax.specs.declared.node_id.NodeId.{NodeId}
use Rattle.core_syntax.specs.Fits.{HaveSizes, growing}
use Rattle.resolved_forms.specs.declared.expr.Expr.{Expr}
use Rattle.resolved_forms.specs.declared.expr.ExprKind.TheVariants as expr
use Rattle.resolved_forms.specs.declared.layout.Hidden.{Hidden}
use Rattle.resolved_forms.specs.InRange.{Target, expr_at, one_deeper}
use Rattle.program_plan.specs.Emitted.{Emitting, emitted, each, let_of, by_last}
use Rattle.program_plan.specs.Frame.{frame_of}
use Rattle.program_plan.specs.Made.{Making, node, followed}
use Rattle.resolved_forms.specs.Survey.{both, surveyed}
use Rattle.program_plan.proofs.Each.{by_last-push, map-push}
use Rattle.program_plan.proofs.Fine.{Fine, FineParts, survey_of, inside_of, entries_of, part_sizes, parts_numbered, parts_surveyed, parts_named, parts_sized}
use Rattle.program_plan.proofs.FineLeaves.{fine_as}
use Rattle.program_plan.proofs.Parting.{enough_first, enough_rest, enough_deeper, named_both, Numbered-append}
use Rattle.program_plan.proofs.Setting.{Setting, Enough, size_in}
use Rattle.program_plan.proofs.Sized.{Sized, HasSize, HaveSizes-more, sized_node, sized_followed, sized_then, sized_where}
use Rattle.resolved_forms.proofs.Surveys.{both_assoc, both_nothing}
use Rattle.program_plan.proofs.Unfolded.{surveyed_let, emitted_let}

-- the front of some parts, and the last
pub all_push : (w : Setting) (front : List Expr) (last : Expr) → survey_of w (front ++ last ∷ []) ≡ both (survey_of w front) (surveyed w.behaviours last)
all_push w [] last = both_nothing (surveyed w.behaviours last)
all_push w (part ∷ front) last =
    let first = surveyed w.behaviours part in
    ap (both first) (all_push w front last) ∙ sym (both_assoc first (survey_of w front) (surveyed w.behaviours last))

pub last_made : (none : Making NodeId) (some : List Emitting → Emitting → Making NodeId) (front : List Expr) (last : Expr)
    → by_last none some (map emitted (front ++ last ∷ [])) ≡ some (map emitted front) (emitted last)
last_made none some front last = ap (by_last none some) (map-push emitted front last) ∙ by_last-push none some (map emitted front) (emitted last)

pub deeper_size : (hidden : Hidden) (base depth : ℕ) → base ≤ depth → size_in hidden base (depth + 1) ≡ suc (size_in hidden base depth)
deeper_size hidden base depth within = omega arith

-- the bound expressions and the body have growing frames
pub let_sizes : (hidden : Hidden) (base depth : ℕ) (parts : List Expr) (sizes : List ℕ) (ids : List NodeId) (id : NodeId) → base ≤ depth
    → HaveSizes sizes ids (part_sizes hidden base one_deeper depth parts) → HasSize (size_in hidden base (depth + length parts)) sizes id
    → HaveSizes sizes (ids ++ id ∷ []) (growing (size_in hidden base depth) ids)
let_sizes hidden base depth [] sizes [] id within have last =
    let none : depth + 0 ≡ depth = omega arith in
    (subst (λ n. HasSize (size_in hidden base n) sizes id) none last, tt)
let_sizes hidden base depth [] sizes (i ∷ ids) id within have last = absurd have
let_sizes hidden base depth (part ∷ parts) sizes [] id within have last = absurd have
let_sizes hidden base depth (part ∷ parts) sizes (i ∷ ids) id within have last =
    let same : depth + suc (length parts) ≡ depth + 1 + length parts = omega arith in (
      have.0,
      subst (λ n. HaveSizes sizes (ids ++ id ∷ []) (growing n ids)) (deeper_size hidden base depth within)
          (let_sizes hidden base (depth + 1) parts sizes ids id (omega arith) have.1 (subst (λ n. HasSize (size_in hidden base n) sizes id) same last)),
    )

module _ (w : Setting) (start mid end depth inner : ℕ) (target : Option Target) (at : Spot) (front : List Expr) (last : Expr) (deep : inner ≡ depth + length front)
    (bound : FineParts w one_deeper target start mid depth front) (body : Fine w mid end inner target last) where
  let_sized : (hidden : Hidden) (base : ℕ) (before : List ℕ)
      → Sized w (Enough w hidden base depth target (both (survey_of w front) (surveyed w.behaviours last)) (entries_of w one_deeper target start mid depth front bound ++ body.entries))
      (let_of at (frame_of w.layout hidden base) (map emitted front) (emitted last)) before (entries_of w one_deeper target start mid depth front bound ++ body.entries) (HasSize (size_in hidden base depth))
  let_sized hidden base before =
      let entries = entries_of w one_deeper target start mid depth front bound in
      let ahead = survey_of w front in
      let own = surveyed w.behaviours last in
      let frame = frame_of w.layout hidden base in
      let size = size_in hidden base depth in
      let sizes_due = part_sizes hidden base one_deeper depth front in
      let Whole : Type 0 = Enough w hidden base depth target (both ahead own) (entries ++ body.entries) in
      let bound_due = λ (sizes : List ℕ) (ids : List NodeId). HaveSizes sizes ids sizes_due in
      sized_followed w Whole (each frame (map emitted front)) (λ ids. followed (emitted last frame) (λ id. node at (Let ids id))) before entries body.entries bound_due (HasSize size)
      (sized_where w (Enough w hidden base depth target ahead entries) Whole (each frame (map emitted front)) before entries bound_due
      (λ enough. enough_first w hidden base depth target ahead own entries body.entries enough)
      (parts_sized w one_deeper target (λ n. omega arith) start mid depth front bound hidden base 0 [] [] before tt))
      (λ more ids have. sized_then w Whole (emitted last frame) (λ id. node at (Let ids id)) (before ++ more) body.entries (HasSize (size_in hidden base inner)) (HasSize size)
      (sized_where w (Enough w hidden base inner target own body.entries) Whole (emitted last frame) (before ++ more) body.entries (HasSize (size_in hidden base inner))
      (λ enough. enough_deeper w hidden base depth inner target own body.entries (omega arith) (enough_rest w hidden base depth target ahead own entries body.entries enough))
      (body.makes hidden base (before ++ more)))
      (λ others id is. sized_node w Whole at (Let ids id) ((before ++ more) ++ others) size (λ enough. record {
        itself = refl;
        inside = let_sizes hidden base depth front ((before ++ more) ++ others) ids id enough.within (HaveSizes-more (before ++ more) others ids sizes_due have)
            (subst (λ n. HasSize (size_in hidden base n) ((before ++ more) ++ others) id) deep is);
      })))

  -- bound expressions, each one deeper, and the body behind them
  pub fine_let : Fine w start end depth target (expr_at at (expr.Let (front ++ last ∷ [])))
  fine_let =
      let entries = entries_of w one_deeper target start mid depth front bound in
      let ahead = survey_of w front in
      let own = surveyed w.behaviours last in
      fine_as w start end depth target (expr_at at (expr.Let (front ++ last ∷ []))) (both ahead own) (λ frame. let_of at frame (map emitted front) (emitted last))
      (surveyed_let w.behaviours at (front ++ last ∷ []) ∙ all_push w front last)
      (emitted_let at (front ++ last ∷ []) ∙ (λ i frame. last_made (node at Nil) (let_of at frame) front last i))
      (record {
        entries = entries ++ body.entries;
        numbered = Numbered-append start mid end entries body.entries (parts_numbered w one_deeper target start mid depth front bound) body.numbered;
        surveys = map-append inside_of entries body.entries ∙ ap (λ l. l ++ map inside_of body.entries) (parts_surveyed w one_deeper target start mid depth front bound) ∙ ap (λ l. ahead.loops ++ l) body.surveys;
        named = named_both w ahead own (parts_named w one_deeper target start mid depth front bound) body.named;
        makes = let_sized;
      })
