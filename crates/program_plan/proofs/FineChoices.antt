-- Chains of choices are fine.
use Rattle.std.proofs.Common.{◌≡◌, ℕ, ◌+◌, ◌≤◌, true, List, [], ◌∷◌, ◌++◌, map, refl, sym, subst, arith, append-nil}
use Rattle.std.specs.Prelude.{Option}
use Rattle.std.proofs.lemmas.Bool.{lt-ltb}
use Rattle.value_core.specs.Place.{Spot}
use Rattle.core_syntax.specs.declared.node.Node.TheVariants as node
use Rattle.core_syntax.specs.declared.node_id.NodeId.{NodeId}
use Rattle.core_syntax.proofs.Appends.{slice_get-append_left}
use Rattle.resolved_forms.specs.declared.expr.Expr.{Expr}
use Rattle.resolved_forms.specs.declared.expr.ExprKind.{ExprKind}
use Rattle.resolved_forms.specs.declared.expr.ExprKind.TheVariants as expr
use Rattle.resolved_forms.specs.declared.layout.Hidden.{Hidden}
use Rattle.resolved_forms.specs.InRange.{Target, as_deep, expr_at, one_deeper}
use Rattle.program_plan.specs.Emitted.{Emitting, emitted, local, cond_of, and_of, or_of}
use Rattle.program_plan.specs.Frame.{frame_of, local_place}
use Rattle.program_plan.specs.Made as made
use Rattle.program_plan.specs.Made.{Making, followed}
use Rattle.resolved_forms.specs.Survey.{both, nothing, surveyed}
use Rattle.program_plan.proofs.Fine.{Fine, FineParts, none, more, survey_of, entries_of, parts_numbered, parts_surveyed, parts_named}
use Rattle.program_plan.proofs.FineLeaves.{fine_as}
use Rattle.program_plan.proofs.FineLet.{deeper_size}
use Rattle.program_plan.proofs.Parting.{enough_first, enough_rest, enough_deeper}
use Rattle.program_plan.proofs.Seated.{local_fits}
use Rattle.program_plan.proofs.Setting.{Setting, Enough, size_in}
use Rattle.program_plan.proofs.Sized.{Sized, HasSize, sized_node, sized_followed, sized_then, sized_where}
use Rattle.program_plan.proofs.Unfolded.{surveyed_cond, surveyed_and, surveyed_or, emitted_cond, emitted_and, emitted_or}

-- a node keeps its size where more come
pub keeps : (n : ℕ) (sizes others : List ℕ) (id : NodeId) → HasSize n sizes id → HasSize n (sizes ++ others) id
keeps n sizes others id is = slice_get-append_left sizes others id.index n is

module _ (w : Setting) (target : Option Target) (at : Spot) (hidden : Hidden) (base : ℕ) where
  cond_sized : (start end depth : ℕ) (parts : List Expr) (fine : FineParts w as_deep target start end depth parts) (before : List ℕ)
      → Sized w (Enough w hidden base depth target (survey_of w parts) (entries_of w as_deep target start end depth parts fine))
      (cond_of at (frame_of w.layout hidden base) (map emitted parts)) before (entries_of w as_deep target start end depth parts fine) (HasSize (size_in hidden base depth))
  cond_sized start end depth [] none before = sized_node w _ at node.Nil before (size_in hidden base depth) (λ enough. record { itself = refl; inside = tt })
  cond_sized start end depth (test ∷ []) (more first none) before =
      let size = size_in hidden base depth in
      let frame = frame_of w.layout hidden base in
      let own = surveyed w.behaviours test in
      let Whole : Type 0 = Enough w hidden base depth target (both own nothing) (first.entries ++ []) in
      sized_followed w Whole (emitted test frame) (λ id. made.node at node.Nil) before first.entries [] (HasSize size) (HasSize size)
      (sized_where w (Enough w hidden base depth target own first.entries) Whole (emitted test frame) before first.entries (HasSize size)
      (λ enough. enough_first w hidden base depth target own nothing first.entries [] enough) (first.makes hidden base before))
      (λ others id is. sized_node w Whole at node.Nil (before ++ others) size (λ enough. record { itself = refl; inside = tt }))
  cond_sized start end depth (test ∷ result ∷ rest) (more first (more {mid = mid} second left)) before =
      let size = size_in hidden base depth in
      let frame = frame_of w.layout hidden base in
      let one = surveyed w.behaviours test in
      let two = surveyed w.behaviours result in
      let three = survey_of w rest in
      let behind = entries_of w as_deep target mid end depth rest left in
      let Whole : Type 0 = Enough w hidden base depth target (both one (both two three)) (first.entries ++ (second.entries ++ behind)) in
      let others_enough = λ (enough : Whole). enough_rest w hidden base depth target one (both two three) first.entries (second.entries ++ behind) enough in
      sized_followed w Whole (emitted test frame)
      (λ c. followed (emitted result frame) (λ t. followed (cond_of at frame (map emitted rest)) (λ o. made.node at (node.If c t o)))) before first.entries (second.entries ++ behind) (HasSize size) (HasSize size)
      (sized_where w (Enough w hidden base depth target one first.entries) Whole (emitted test frame) before first.entries (HasSize size)
      (λ enough. enough_first w hidden base depth target one (both two three) first.entries (second.entries ++ behind) enough) (first.makes hidden base before))
      (λ m c is_c. sized_followed w Whole (emitted result frame) (λ t. followed (cond_of at frame (map emitted rest)) (λ o. made.node at (node.If c t o))) (before ++ m) second.entries behind (HasSize size) (HasSize size)
      (sized_where w (Enough w hidden base depth target two second.entries) Whole (emitted result frame) (before ++ m) second.entries (HasSize size)
      (λ enough. enough_first w hidden base depth target two three second.entries behind (others_enough enough)) (second.makes hidden base (before ++ m)))
      (λ n t is_t. sized_then w Whole (cond_of at frame (map emitted rest)) (λ o. made.node at (node.If c t o)) ((before ++ m) ++ n) behind (HasSize size) (HasSize size)
      (sized_where w (Enough w hidden base depth target three behind) Whole (cond_of at frame (map emitted rest)) ((before ++ m) ++ n) behind (HasSize size)
      (λ enough. enough_rest w hidden base depth target two three second.entries behind (others_enough enough)) (cond_sized mid end depth rest left ((before ++ m) ++ n)))
      (λ l o is_o. sized_node w Whole at (node.If c t o) (((before ++ m) ++ n) ++ l) size (λ enough. record {
        itself = refl;
        inside = (keeps size ((before ++ m) ++ n) l c (keeps size (before ++ m) n c is_c), (keeps size ((before ++ m) ++ n) l t is_t, (is_o, tt)));
      }))))

  -- the local of the last level, where one more is bound
  last_sized : (Whole : Type 0) (depth : ℕ) (before : List ℕ) → (Whole → base ≤ depth) → Sized w Whole (local at depth (frame_of w.layout hidden base)) before [] (HasSize (size_in hidden base (depth + 1)))
  last_sized Whole depth before within =
      let place = local_place (frame_of w.layout hidden base) depth in
      let size = size_in hidden base (depth + 1) in
      sized_node w Whole at (node.Local place) before size (λ enough. let le = within enough in record {
        itself = lt-ltb place size (local_fits w.layout hidden base (depth + 1) depth (omega arith) (omega arith) (λ outer. absurd (omega arith)));
        inside = tt;
      })

  -- a let of one value round an if
  let_sized : (Whole : Type 0) (depth : ℕ) (before : List ℕ) (value a b c : NodeId) → (Whole → base ≤ depth)
      → HasSize (size_in hidden base depth) before value → HasSize (size_in hidden base (depth + 1)) before a → HasSize (size_in hidden base (depth + 1)) before b → HasSize (size_in hidden base (depth + 1)) before c
      → Sized w Whole (followed (made.node at (node.If a b c)) (λ choice. made.node at (node.Let (value ∷ []) choice))) before [] (HasSize (size_in hidden base depth))
  let_sized Whole depth before value a b c within is_value is_a is_b is_c =
      let size = size_in hidden base depth in
      let deeper = size_in hidden base (depth + 1) in
      sized_then w Whole (made.node at (node.If a b c)) (λ choice. made.node at (node.Let (value ∷ []) choice)) before [] (HasSize deeper) (HasSize size)
      (sized_node w Whole at (node.If a b c) before deeper (λ enough. record { itself = refl; inside = (is_a, (is_b, (is_c, tt))) }))
      (λ m choice is. sized_node w Whole at (node.Let (value ∷ []) choice) (before ++ m) size (λ enough. record {
        itself = refl;
        inside = (keeps size before m value is_value, (subst (λ n. HasSize n (before ++ m) choice) (deeper_size hidden base depth (within enough)) is, tt));
      }))

  -- a single part is itself
  alone_sized : (start end depth : ℕ) (part : Expr) (first : Fine w start end depth target part) (before : List ℕ)
      → Sized w (Enough w hidden base depth target (both (surveyed w.behaviours part) nothing) (first.entries ++ [])) (emitted part (frame_of w.layout hidden base)) before (first.entries ++ []) (HasSize (size_in hidden base depth))
  alone_sized start end depth part first before =
      let own = surveyed w.behaviours part in
      let frame = frame_of w.layout hidden base in
      let Whole : Type 0 = Enough w hidden base depth target (both own nothing) (first.entries ++ []) in
      subst (λ l. Sized w Whole (emitted part frame) before l (HasSize (size_in hidden base depth))) (sym (append-nil first.entries))
      (sized_where w (Enough w hidden base depth target own first.entries) Whole (emitted part frame) before first.entries (HasSize (size_in hidden base depth))
      (λ enough. enough_first w hidden base depth target own nothing first.entries [] enough) (first.makes hidden base before))

  and_sized : (start end depth : ℕ) (parts : List Expr) (fine : FineParts w one_deeper target start end depth parts) (before : List ℕ)
      → Sized w (Enough w hidden base depth target (survey_of w parts) (entries_of w one_deeper target start end depth parts fine))
      (and_of at (frame_of w.layout hidden base) depth (map emitted parts)) before (entries_of w one_deeper target start end depth parts fine) (HasSize (size_in hidden base depth))
  and_sized start end depth [] none before = sized_node w _ at (node.Bool true) before (size_in hidden base depth) (λ enough. record { itself = refl; inside = tt })
  and_sized start end depth (part ∷ []) (more first none) before = alone_sized start end depth part first before
  and_sized start end depth (part ∷ next ∷ parts) (more {mid = mid} first left) before =
      let size = size_in hidden base depth in
      let deeper = size_in hidden base (depth + 1) in
      let frame = frame_of w.layout hidden base in
      let own = surveyed w.behaviours part in
      let behind = survey_of w (next ∷ parts) in
      let entries = entries_of w one_deeper target mid end (depth + 1) (next ∷ parts) left in
      let Whole : Type 0 = Enough w hidden base depth target (both own behind) (first.entries ++ entries) in
      let within = λ (enough : Whole). enough.within in
      let rest_of = and_of at frame (depth + 1) (map emitted (next ∷ parts)) in
      let choice = λ (value test rest again : NodeId). followed (made.node at (node.If test rest again)) (λ choice. made.node at (node.Let (value ∷ []) choice)) in
      sized_followed w Whole (emitted part frame)
      (λ value. followed (local at depth frame) (λ test. followed rest_of (λ rest. followed (local at depth frame) (λ again. choice value test rest again)))) before first.entries entries (HasSize size) (HasSize size)
      (sized_where w (Enough w hidden base depth target own first.entries) Whole (emitted part frame) before first.entries (HasSize size)
      (λ enough. enough_first w hidden base depth target own behind first.entries entries enough) (first.makes hidden base before))
      (λ m value is_value. sized_followed w Whole (local at depth frame) (λ test. followed rest_of (λ rest. followed (local at depth frame) (λ again. choice value test rest again))) (before ++ m) [] entries (HasSize deeper) (HasSize size)
      (last_sized Whole depth (before ++ m) within)
      (λ n test is_test. sized_then w Whole rest_of (λ rest. followed (local at depth frame) (λ again. choice value test rest again)) ((before ++ m) ++ n) entries (HasSize deeper) (HasSize size)
      (sized_where w (Enough w hidden base (depth + 1) target behind entries) Whole rest_of ((before ++ m) ++ n) entries (HasSize deeper)
      (λ enough. enough_deeper w hidden base depth (depth + 1) target behind entries (omega arith) (enough_rest w hidden base depth target own behind first.entries entries enough))
      (and_sized mid end (depth + 1) (next ∷ parts) left ((before ++ m) ++ n)))
      (λ l rest is_rest. sized_then w Whole (local at depth frame) (λ again. choice value test rest again) (((before ++ m) ++ n) ++ l) [] (HasSize deeper) (HasSize size)
      (last_sized Whole depth (((before ++ m) ++ n) ++ l) within)
      (λ k again is_again. let_sized Whole depth ((((before ++ m) ++ n) ++ l) ++ k) value test rest again within
      (keeps size (((before ++ m) ++ n) ++ l) k value (keeps size ((before ++ m) ++ n) l value (keeps size (before ++ m) n value is_value)))
      (keeps deeper (((before ++ m) ++ n) ++ l) k test (keeps deeper ((before ++ m) ++ n) l test is_test))
      (keeps deeper (((before ++ m) ++ n) ++ l) k rest is_rest)
      is_again))))

  or_sized : (start end depth : ℕ) (parts : List Expr) (fine : FineParts w one_deeper target start end depth parts) (before : List ℕ)
      → Sized w (Enough w hidden base depth target (survey_of w parts) (entries_of w one_deeper target start end depth parts fine))
      (or_of at (frame_of w.layout hidden base) depth (map emitted parts)) before (entries_of w one_deeper target start end depth parts fine) (HasSize (size_in hidden base depth))
  or_sized start end depth [] none before = sized_node w _ at node.Nil before (size_in hidden base depth) (λ enough. record { itself = refl; inside = tt })
  or_sized start end depth (part ∷ []) (more first none) before = alone_sized start end depth part first before
  or_sized start end depth (part ∷ next ∷ parts) (more {mid = mid} first left) before =
      let size = size_in hidden base depth in
      let deeper = size_in hidden base (depth + 1) in
      let frame = frame_of w.layout hidden base in
      let own = surveyed w.behaviours part in
      let behind = survey_of w (next ∷ parts) in
      let entries = entries_of w one_deeper target mid end (depth + 1) (next ∷ parts) left in
      let Whole : Type 0 = Enough w hidden base depth target (both own behind) (first.entries ++ entries) in
      let within = λ (enough : Whole). enough.within in
      let rest_of = or_of at frame (depth + 1) (map emitted (next ∷ parts)) in
      let choice = λ (value test again rest : NodeId). followed (made.node at (node.If test again rest)) (λ choice. made.node at (node.Let (value ∷ []) choice)) in
      sized_followed w Whole (emitted part frame)
      (λ value. followed (local at depth frame) (λ test. followed (local at depth frame) (λ again. followed rest_of (λ rest. choice value test again rest)))) before first.entries entries (HasSize size) (HasSize size)
      (sized_where w (Enough w hidden base depth target own first.entries) Whole (emitted part frame) before first.entries (HasSize size)
      (λ enough. enough_first w hidden base depth target own behind first.entries entries enough) (first.makes hidden base before))
      (λ m value is_value. sized_followed w Whole (local at depth frame) (λ test. followed (local at depth frame) (λ again. followed rest_of (λ rest. choice value test again rest))) (before ++ m) [] entries (HasSize deeper) (HasSize size)
      (last_sized Whole depth (before ++ m) within)
      (λ n test is_test. sized_followed w Whole (local at depth frame) (λ again. followed rest_of (λ rest. choice value test again rest)) ((before ++ m) ++ n) [] entries (HasSize deeper) (HasSize size)
      (last_sized Whole depth ((before ++ m) ++ n) within)
      (λ l again is_again. sized_then w Whole rest_of (λ rest. choice value test again rest) (((before ++ m) ++ n) ++ l) entries (HasSize deeper) (HasSize size)
      (sized_where w (Enough w hidden base (depth + 1) target behind entries) Whole rest_of (((before ++ m) ++ n) ++ l) entries (HasSize deeper)
      (λ enough. enough_deeper w hidden base depth (depth + 1) target behind entries (omega arith) (enough_rest w hidden base depth target own behind first.entries entries enough))
      (or_sized mid end (depth + 1) (next ∷ parts) left (((before ++ m) ++ n) ++ l)))
      (λ k rest is_rest. let_sized Whole depth ((((before ++ m) ++ n) ++ l) ++ k) value test again rest within
      (keeps size (((before ++ m) ++ n) ++ l) k value (keeps size ((before ++ m) ++ n) l value (keeps size (before ++ m) n value is_value)))
      (keeps deeper (((before ++ m) ++ n) ++ l) k test (keeps deeper ((before ++ m) ++ n) l test is_test))
      (keeps deeper (((before ++ m) ++ n) ++ l) k again is_again)
      is_rest))))

module _ (w : Setting) (start end depth : ℕ) (target : Option Target) (at : Spot) (parts : List Expr) where
  -- an expression that names what its parts do, and makes what is made of them
  fine_parts : (next : ℕ → ℕ) (kind : ExprKind) (emitting : Emitting) → surveyed w.behaviours (expr_at at kind) ≡ survey_of w parts → emitted (expr_at at kind) ≡ emitting
      → (fine : FineParts w next target start end depth parts)
      → ((hidden : Hidden) (base : ℕ) (before : List ℕ) → Sized w (Enough w hidden base depth target (survey_of w parts) (entries_of w next target start end depth parts fine))
      (emitting (frame_of w.layout hidden base)) before (entries_of w next target start end depth parts fine) (HasSize (size_in hidden base depth)))
      → Fine w start end depth target (expr_at at kind)
  fine_parts next kind emitting names emits fine makes = fine_as w start end depth target (expr_at at kind) (survey_of w parts) emitting names emits (record {
    entries = entries_of w next target start end depth parts fine;
    numbered = parts_numbered w next target start end depth parts fine;
    surveys = parts_surveyed w next target start end depth parts fine;
    named = parts_named w next target start end depth parts fine;
    makes = makes;
  })

  -- tests and results at one depth
  pub fine_cond : FineParts w as_deep target start end depth parts → Fine w start end depth target (expr_at at (expr.Cond parts))
  fine_cond fine = fine_parts as_deep (expr.Cond parts) (λ frame. cond_of at frame (map emitted parts)) (surveyed_cond w.behaviours at parts) (emitted_cond at parts) fine
      (λ hidden base before. cond_sized w target at hidden base start end depth parts fine before)

  -- parts of which each is one deeper
  pub fine_and : FineParts w one_deeper target start end depth parts → Fine w start end depth target (expr_at at (expr.And depth parts))
  fine_and fine = fine_parts one_deeper (expr.And depth parts) (λ frame. and_of at frame depth (map emitted parts)) (surveyed_and w.behaviours at depth parts) (emitted_and at depth parts) fine
      (λ hidden base before. and_sized w target at hidden base start end depth parts fine before)

  pub fine_or : FineParts w one_deeper target start end depth parts → Fine w start end depth target (expr_at at (expr.Or depth parts))
  fine_or fine = fine_parts one_deeper (expr.Or depth parts) (λ frame. or_of at frame depth (map emitted parts)) (surveyed_or w.behaviours at depth parts) (emitted_or at depth parts) fine
      (λ hidden base before. or_sized w target at hidden base start end depth parts fine before)
