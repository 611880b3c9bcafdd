-- A program grows form by form.
use Rattle.std.proofs.Common.{◌≡◌, ◌∙◌, List, [], ◌∷◌, ◌++◌, length, refl, sym, ap, subst, append_assoc, append-nil}
use Rattle.std.specs.Prelude.{Some}
use Rattle.std.specs.List.{slice_get}
use Rattle.value_core.specs.Place.{Spot}
use Rattle.core_syntax.specs.declared.function.Function.{Function}
use Rattle.core_syntax.specs.declared.node_id.NodeId.{NodeId}
use Rattle.core_syntax.specs.declared.row.Row.{Row}
use Rattle.core_syntax.specs.Table.{main_row}
use Rattle.core_syntax.proofs.Appends.{slice_get-append_left, slice_get-push}
use Rattle.resolved_forms.specs.declared.layout.Layout.{Layout}
use Rattle.resolved_forms.specs.declared.top.Top.{Top}
use Rattle.resolved_forms.specs.declared.top.TopKind.{TopKind}
use Rattle.resolved_forms.specs.declared.top.TopKind.TheVariants.{Global, Value, Function as Defined, Behaviour as Reacts}
use Rattle.program_plan.specs.Lowered.{Parts, top_making, with_root, with_top, with_tops, program_of_parts}
use Rattle.program_plan.specs.Made.{Draft, extended}
use Rattle.program_plan.proofs.Holding.{HasRows, rows_between}

-- these are the first of those
pub record IsFirst {X : Type 0} (first all : List X) : Type 0 where
  pub rest : List X
  pub is : all ≡ first ++ rest

pub all_first : {X : Type 0} (xs : List X) → IsFirst xs xs
all_first xs = record { rest = []; is = sym (append-nil xs) }

-- what was pushed is where it was
pub pushed_there : {X : Type 0} (xs : List X) (x : X) (all : List X) → IsFirst (xs ++ x ∷ []) all → slice_get all (length xs) ≡ Some x
pushed_there xs x all first = ap (λ l. slice_get l (length xs)) first.is ∙ slice_get-append_left (xs ++ x ∷ []) first.rest (length xs) x (slice_get-push xs x)

-- one program grew into another
pub record Grew (old new : Parts) : Type 0 where
  pub rows : IsFirst old.draft.rows new.draft.rows
  pub functions : IsFirst old.functions new.functions
  pub behaviours : IsFirst old.behaviours new.behaviours
  pub steps : IsFirst old.steps new.steps

module _ (layout : Layout) where
  -- the rows and the functions of loops that a form makes
  abbrev pub top_rows : Parts → Top → List Row
  top_rows parts top = (top_making layout parts top.kind (length parts.draft.rows)).rows

  abbrev pub top_loops : Parts → Top → List Function
  top_loops parts top = (top_making layout parts top.kind (length parts.draft.rows)).loops

  -- the functions of the loops of further forms
  abbrev pub later_loops : Parts → List Top → List Function
  later_loops parts [] = []
  later_loops parts (top ∷ tops) = top_loops parts top ++ later_loops (with_top layout parts top) tops

  draft_with : (at : Spot) (kind : TopKind) (parts : Parts) (draft : Draft) (root : NodeId) → (with_root layout at kind parts draft root).draft ≡ draft
  draft_with at (Global expr) parts draft root = refl
  draft_with at (Value expr) parts draft root = refl
  draft_with at (Defined params body) parts draft root = refl
  draft_with at (Reacts head body) parts draft root = refl

  rows_with : (parts : Parts) (top : Top) → (with_top layout parts top).draft.rows ≡ parts.draft.rows ++ top_rows parts top
  unfolding extended
  rows_with parts top = ap (λ (d : Draft). d.rows) (draft_with top.at top.kind parts _ _)

  loops_with : (parts : Parts) (top : Top) → (with_top layout parts top).draft.loops ≡ parts.draft.loops ++ top_loops parts top
  unfolding extended
  loops_with parts top = ap (λ (d : Draft). d.loops) (draft_with top.at top.kind parts _ _)

  pub loops_with_all : (parts : Parts) (tops : List Top) → (with_tops layout parts tops).draft.loops ≡ parts.draft.loops ++ later_loops parts tops
  loops_with_all parts [] = sym (append-nil parts.draft.loops)
  loops_with_all parts (top ∷ tops) =
      loops_with_all (with_top layout parts top) tops ∙ ap (λ l. l ++ later_loops (with_top layout parts top) tops) (loops_with parts top)
      ∙ append_assoc parts.draft.loops (top_loops parts top) (later_loops (with_top layout parts top) tops)

  first_then : {X : Type 0} (xs ys all : List X) → IsFirst xs ys → IsFirst ys all → IsFirst xs all
  first_then xs ys all first second = record { rest = first.rest ++ second.rest; is = second.is ∙ ap (λ l. l ++ second.rest) first.is ∙ append_assoc xs first.rest second.rest }

  pushed_first : {X : Type 0} (xs : List X) (x : X) → IsFirst xs (xs ++ x ∷ [])
  pushed_first xs x = record { rest = x ∷ []; is = refl }

  grew_root : (at : Spot) (kind : TopKind) (parts : Parts) (draft : Draft) (root : NodeId) → IsFirst parts.draft.rows draft.rows → Grew parts (with_root layout at kind parts draft root)
  grew_root at (Global expr) parts draft root rows = record { rows = rows; functions = all_first _; behaviours = all_first _; steps = pushed_first _ _ }
  grew_root at (Value expr) parts draft root rows = record { rows = rows; functions = all_first _; behaviours = all_first _; steps = pushed_first _ _ }
  grew_root at (Defined params body) parts draft root rows = record { rows = rows; functions = pushed_first _ _; behaviours = all_first _; steps = all_first _ }
  grew_root at (Reacts head body) parts draft root rows = record { rows = rows; functions = all_first _; behaviours = pushed_first _ _; steps = all_first _ }

  grew_top : (parts : Parts) (top : Top) → Grew parts (with_top layout parts top)
  unfolding extended
  grew_top parts top = grew_root top.at top.kind parts _ _ (record { rest = top_rows parts top; is = refl })

  pub grew_all : (parts : Parts) (tops : List Top) → Grew parts (with_tops layout parts tops)
  grew_all parts [] = record { rows = all_first _; functions = all_first _; behaviours = all_first _; steps = all_first _ }
  grew_all parts (top ∷ tops) =
      let first = grew_top parts top in
      let second = grew_all (with_top layout parts top) tops in
      record {
        rows = first_then _ _ _ first.rows second.rows;
        functions = first_then _ _ _ first.functions second.functions;
        behaviours = first_then _ _ _ first.behaviours second.behaviours;
        steps = first_then _ _ _ first.steps second.steps;
      }

  -- the rows of a form are there in the end
  pub rows_there : (parts final : Parts) (top : Top) → IsFirst (with_top layout parts top).draft.rows final.draft.rows → HasRows (program_of_parts final).nodes (length parts.draft.rows) (top_rows parts top)
  rows_there parts final top first =
      let before = parts.draft.rows in
      let made = top_rows parts top in
      let main = main_row final.steps ∷ [] in
      let all : final.draft.rows ++ main ≡ before ++ (made ++ (first.rest ++ main)) =
      ap (λ l. l ++ main) (first.is ∙ ap (λ l. l ++ first.rest) (rows_with parts top))
      ∙ append_assoc (before ++ made) first.rest main ∙ append_assoc before made (first.rest ++ main) in
      subst (λ (l : List Row). HasRows l (length before) made) (sym all) (rows_between before made (first.rest ++ main))
