-- What is made of the values of some parts is fine.
use Rattle.std.proofs.Common.{◌≡◌, ◌∙◌, ◌⊎◌, inl, inr, ℕ, suc, ◌+◌, ◌≤◌, Bool, true, List, [], ◌∷◌, ◌++◌, length, map, get_or, refl, ap, subst, arith, length-append}
use Rattle.std.specs.Prelude.{Option, Some, IsTrue, Contains, ◌&&◌}
use Rattle.std.proofs.lemmas.Bool.{and_from}
use Rattle.std.proofs.lemmas.List.{length-map}
use Rattle.std.proofs.lemmas.List.Elements.{All-nil}
use Rattle.value_core.specs.Place.{Spot}
use Rattle.value_core.specs.primitives.Words.{takes_of}
use Rattle.core_syntax.specs.declared.node_id.NodeId.{NodeId}
use Rattle.core_syntax.specs.Children.{children}
use Rattle.core_syntax.specs.Fits.{HaveSizes, all_below, child_sizes, fits, function_takes, state_takes}
use Rattle.resolved_forms.specs.declared.expr.Expr.{Expr}
use Rattle.resolved_forms.specs.declared.expr.ExprKind.TheVariants as expr
use Rattle.resolved_forms.specs.declared.head.Head.{Head}
use Rattle.resolved_forms.specs.declared.head.Head.TheVariants as head
use Rattle.resolved_forms.specs.declared.layout.Hidden.{Hidden}
use Rattle.resolved_forms.specs.InRange.{Target, as_deep, expr_at}
use Rattle.program_plan.specs.Applied.{applied, fixed, sent}
use Rattle.program_plan.specs.Emitted.{emitted, each}
use Rattle.program_plan.specs.Frame.{Frame, frame_of, hidden_places, hidden_count, global_place, local_place}
use Rattle.program_plan.specs.Made.{node}
use Rattle.resolved_forms.specs.Survey.{both, of_units}
use Rattle.resolved_forms.specs.Uses.{head_units, function_unit}
use Rattle.program_plan.proofs.Fine.{Fine, FineParts, survey_of, entries_of, part_sizes, parts_numbered, parts_surveyed, parts_named, parts_sized}
use Rattle.program_plan.proofs.FineLeaves.{fine_as}
use Rattle.resolved_forms.proofs.Members.{none_in, in_head}
use Rattle.program_plan.proofs.Parting.{enough_first, enough_rest, named_both}
use Rattle.program_plan.proofs.Seated.{hidden_fit}
use Rattle.program_plan.proofs.Setting.{Setting, FunctionReady, BehaviourReady, TargetIs, TargetReady, Enough, size_in, function_hides, behaviour_hides}
use Rattle.program_plan.proofs.Unfolded.{surveyed_apply, emitted_apply}
use Rattle.program_plan.proofs.Sized.{HasSize, length-HaveSizes, sized_node, sized_then, sized_where}

-- the head takes so many parts
abbrev pub HeadFine : Setting → Option Target → ℕ → Head → Type 0
HeadFine w target count (head.Op op) = IsTrue (takes_of op count)
HeadFine w target count (head.Call number) = FunctionReady w number count ⊎ (target ≡ Some (record { number = number; takes = count }))
HeadFine w target count (head.Spawn number) = BehaviourReady w number count
HeadFine w target count (head.Become number) = BehaviourReady w number count
HeadFine w target count _ = Unit {0}

-- parts at one depth have frames of one size
pub plain_sizes : (hidden : Hidden) (base depth : ℕ) (parts : List Expr) (sizes : List ℕ) (ids : List NodeId) → HaveSizes sizes ids (part_sizes hidden base as_deep depth parts)
    → HaveSizes sizes ids (map (λ child. size_in hidden base depth) ids)
plain_sizes hidden base depth [] sizes [] have = tt
plain_sizes hidden base depth [] sizes (id ∷ ids) have = absurd have
plain_sizes hidden base depth (part ∷ parts) sizes [] have = absurd have
plain_sizes hidden base depth (part ∷ parts) sizes (id ∷ ids) have = (have.0, plain_sizes hidden base depth parts sizes ids have.1)

pub length-part_sizes : (hidden : Hidden) (base : ℕ) (next : ℕ → ℕ) (depth : ℕ) (parts : List Expr) → length (part_sizes hidden base next depth parts) ≡ length parts
length-part_sizes hidden base next depth [] = refl
length-part_sizes hidden base next depth (part ∷ parts) = ap (λ n. suc n) (length-part_sizes hidden base next (next depth) parts)

length-hidden : (frame : Frame) (callee : Hidden) → length (hidden_places frame callee) ≡ hidden_count callee
length-hidden frame callee =
    length-append (map (global_place frame) callee.globals) (map (local_place frame) callee.levels)
    ∙ ap (λ n. n + length (map (local_place frame) callee.levels)) (length-map callee.globals (global_place frame))
    ∙ ap (λ n. length callee.globals + n) (length-map callee.levels (local_place frame))

module _ (w : Setting) (hidden : Hidden) (base depth : ℕ) (target : Option Target) where
  fixed_fits : (h : Head) (ids : List NodeId) → fits takes_of w.table (size_in hidden base depth) (fixed h ids) ≡ true
  fixed_fits head.If (a ∷ b ∷ c ∷ []) = refl
  fixed_fits head.RefSet (a ∷ b ∷ []) = refl
  fixed_fits head.Ref (a ∷ []) = refl
  fixed_fits head.Deref (a ∷ []) = refl
  fixed_fits head.Fork (a ∷ []) = refl
  fixed_fits head.Join (a ∷ []) = refl
  fixed_fits head.Dosync (a ∷ []) = refl
  fixed_fits head.SelfActor ids = refl
  fixed_fits h ids = refl

  sent_fits : (ids : List NodeId) → fits takes_of w.table (size_in hidden base depth) (sent ids) ≡ true
  sent_fits [] = refl
  sent_fits (a ∷ ids) = refl

  fixed_inside : (h : Head) (sizes : List ℕ) (ids : List NodeId) → HaveSizes sizes ids (map (λ child. size_in hidden base depth) ids)
      → HaveSizes sizes (children (fixed h ids)) (child_sizes (size_in hidden base depth) (fixed h ids))
  fixed_inside head.If sizes (a ∷ b ∷ c ∷ []) have = have
  fixed_inside head.RefSet sizes (a ∷ b ∷ []) have = have
  fixed_inside head.Ref sizes (a ∷ []) have = have
  fixed_inside head.Deref sizes (a ∷ []) have = have
  fixed_inside head.Fork sizes (a ∷ []) have = have
  fixed_inside head.Join sizes (a ∷ []) have = have
  fixed_inside head.Dosync sizes (a ∷ []) have = have
  fixed_inside head.SelfActor sizes ids have = tt
  fixed_inside h sizes ids have = tt

  sent_inside : (sizes : List ℕ) (ids : List NodeId) → HaveSizes sizes ids (map (λ child. size_in hidden base depth) ids)
      → HaveSizes sizes (children (sent ids)) (child_sizes (size_in hidden base depth) (sent ids))
  sent_inside sizes [] have = tt
  sent_inside sizes (a ∷ ids) have = have

  -- the parts of a node have frames of its own size
  pub applied_inside : (h : Head) (sizes : List ℕ) (ids : List NodeId) → HaveSizes sizes ids (map (λ child. size_in hidden base depth) ids)
      → HaveSizes sizes (children (applied (frame_of w.layout hidden base) h ids)) (child_sizes (size_in hidden base depth) (applied (frame_of w.layout hidden base) h ids))
  applied_inside head.Vector sizes ids have = have
  applied_inside head.Map sizes ids have = have
  applied_inside head.Do sizes ids have = have
  applied_inside (head.Op op) sizes ids have = have
  applied_inside head.Println sizes ids have = have
  applied_inside (head.Call number) sizes ids have = have
  applied_inside (head.Spawn number) sizes ids have = have
  applied_inside (head.Become number) sizes ids have = have
  applied_inside head.Send sizes ids have = sent_inside sizes ids have
  applied_inside head.If sizes ids have = fixed_inside head.If sizes ids have
  applied_inside head.Ref sizes ids have = fixed_inside head.Ref sizes ids have
  applied_inside head.Deref sizes ids have = fixed_inside head.Deref sizes ids have
  applied_inside head.RefSet sizes ids have = fixed_inside head.RefSet sizes ids have
  applied_inside head.Fork sizes ids have = fixed_inside head.Fork sizes ids have
  applied_inside head.Join sizes ids have = fixed_inside head.Join sizes ids have
  applied_inside head.Dosync sizes ids have = fixed_inside head.Dosync sizes ids have
  applied_inside head.SelfActor sizes ids have = tt

  -- the hidden arguments of a unit that is named, and hides only globals
  globals_fit : (unit : ℕ) (callee : Hidden) → callee.globals ≡ get_or w.reached unit [] → callee.levels ≡ [] → Enough w hidden base depth target (of_units (unit ∷ [])) []
      → all_below (size_in hidden base depth) (hidden_places (frame_of w.layout hidden base) callee) ≡ true
  globals_fit unit callee reaches plain enough =
      hidden_fit w.layout hidden base depth callee enough.within
      (λ g there. enough.covers.through unit g (in_head unit []) (subst (λ l. Contains l g) reaches there))
      (λ level there. absurd (none_in level (subst (λ l. Contains l level) plain there)))

  pub counted : (takes : ℕ → Bool) (callee : Hidden) (ids : List NodeId) (count : ℕ) → length ids ≡ count → takes (hidden_count callee + count) ≡ true
      → takes (length (hidden_places (frame_of w.layout hidden base) callee) + length ids) ≡ true
  counted takes callee ids count long is =
      ap (λ n. takes (n + length ids)) (length-hidden (frame_of w.layout hidden base) callee) ∙ ap (λ n. takes (hidden_count callee + n)) long ∙ is

  unit_fits : (takes : ℕ → Bool) (unit : ℕ) (callee : Hidden) (ids : List NodeId) (count : ℕ) → length ids ≡ count → takes (hidden_count callee + count) ≡ true
      → callee.globals ≡ get_or w.reached unit [] → callee.levels ≡ [] → Enough w hidden base depth target (of_units (unit ∷ [])) []
      → (all_below (size_in hidden base depth) (hidden_places (frame_of w.layout hidden base) callee) && takes (length (hidden_places (frame_of w.layout hidden base) callee) + length ids)) ≡ true
  unit_fits takes unit callee ids count long is reaches plain enough =
      and_from _ _ (globals_fit unit callee reaches plain enough) (counted takes callee ids count long is)

  -- a call from a function or loop to itself
  pub own_fits : (callee : Target) (ids : List NodeId) → length ids ≡ callee.takes → base ≤ depth → TargetIs w hidden base callee
      → (all_below (size_in hidden base depth) (hidden_places (frame_of w.layout hidden base) (function_hides w callee.number))
      && function_takes w.table callee.number (length (hidden_places (frame_of w.layout hidden base) (function_hides w callee.number)) + length ids)) ≡ true
  own_fits callee ids long within is =
      and_from _ _
      (hidden_fit w.layout hidden base depth (function_hides w callee.number) within is.globals (λ level there. let at = is.levels level there in let lt = at.0 in (omega arith, λ outer. at.1)))
      (counted (function_takes w.table callee.number) (function_hides w callee.number) ids callee.takes long is.takes)

  call_fits : (number : ℕ) (ids : List NodeId) (count : ℕ) → length ids ≡ count → HeadFine w target count (head.Call number)
      → Enough w hidden base depth target (of_units (function_unit w.behaviours number ∷ [])) []
      → fits takes_of w.table (size_in hidden base depth) (applied (frame_of w.layout hidden base) (head.Call number) ids) ≡ true
  call_fits number ids count long (inl ready) enough =
      unit_fits (function_takes w.table number) (function_unit w.behaviours number) (function_hides w number) ids count long ready.takes ready.reaches ready.plain enough
  call_fits number ids count long (inr own) enough =
      own_fits (record { number = number; takes = count }) ids long enough.within (subst (λ t. TargetReady w hidden base t) own enough.target_ready)

  start_fits : (number : ℕ) (ids : List NodeId) (count : ℕ) → length ids ≡ count → BehaviourReady w number count → Enough w hidden base depth target (of_units (number ∷ [])) []
      → fits takes_of w.table (size_in hidden base depth) (applied (frame_of w.layout hidden base) (head.Spawn number) ids) ≡ true
  start_fits number ids count long ready enough =
      unit_fits (state_takes w.table number) number (behaviour_hides w number) ids count long ready.takes ready.reaches ready.plain enough

  -- the node itself fits
  pub applied_fits : (h : Head) (ids : List NodeId) (count : ℕ) → length ids ≡ count → HeadFine w target count h → Enough w hidden base depth target (of_units (head_units w.behaviours h)) []
      → fits takes_of w.table (size_in hidden base depth) (applied (frame_of w.layout hidden base) h ids) ≡ true
  applied_fits head.Vector ids count long fine enough = refl
  applied_fits head.Map ids count long fine enough = refl
  applied_fits head.Do ids count long fine enough = refl
  applied_fits (head.Op op) ids count long fine enough = ap (takes_of op) long ∙ fine
  applied_fits head.Println ids count long fine enough = refl
  applied_fits (head.Call number) ids count long fine enough = call_fits number ids count long fine enough
  applied_fits (head.Spawn number) ids count long fine enough = start_fits number ids count long fine enough
  applied_fits (head.Become number) ids count long fine enough = start_fits number ids count long fine enough
  applied_fits head.Send ids count long fine enough = sent_fits ids
  applied_fits head.If ids count long fine enough = fixed_fits head.If ids
  applied_fits head.Ref ids count long fine enough = fixed_fits head.Ref ids
  applied_fits head.Deref ids count long fine enough = fixed_fits head.Deref ids
  applied_fits head.RefSet ids count long fine enough = fixed_fits head.RefSet ids
  applied_fits head.Fork ids count long fine enough = fixed_fits head.Fork ids
  applied_fits head.Join ids count long fine enough = fixed_fits head.Join ids
  applied_fits head.Dosync ids count long fine enough = fixed_fits head.Dosync ids
  applied_fits head.SelfActor ids count long fine enough = refl

-- a head over parts at one depth
pub fine_apply : (w : Setting) (start end depth : ℕ) (target : Option Target) (at : Spot) (h : Head) (parts : List Expr) → HeadFine w target (length parts) h
    → FineParts w as_deep target start end depth parts → Fine w start end depth target (expr_at at (expr.Apply h parts))
fine_apply w start end depth target at h parts head_fine fine =
    let entries = entries_of w as_deep target start end depth parts fine in
    let units = of_units (head_units w.behaviours h) in
    let behind = survey_of w parts in
    fine_as w start end depth target (expr_at at (expr.Apply h parts)) (both units behind) _ (surveyed_apply w.behaviours at h parts) (emitted_apply at h parts) (record {
      entries = entries;
      numbered = parts_numbered w as_deep target start end depth parts fine;
      surveys = parts_surveyed w as_deep target start end depth parts fine;
      named = named_both w units behind (record { uses = All-nil _; inside = All-nil _ }) (parts_named w as_deep target start end depth parts fine);
      makes = λ hidden base before.
          let frame = frame_of w.layout hidden base in
          let size = size_in hidden base depth in
          let sizes_due = part_sizes hidden base as_deep depth parts in
          let Whole : Type 0 = Enough w hidden base depth target (both units behind) entries in
          sized_then w Whole (each frame (map emitted parts)) (λ ids. node at (applied frame h ids)) before entries (λ sizes ids. HaveSizes sizes ids sizes_due) (HasSize size)
          (sized_where w (Enough w hidden base depth target behind entries) Whole (each frame (map emitted parts)) before entries (λ sizes ids. HaveSizes sizes ids sizes_due)
          (λ enough. enough_rest w hidden base depth target units behind [] entries enough)
          (parts_sized w as_deep target (λ n. omega arith) start end depth parts fine hidden base 0 [] [] before tt))
          (λ more ids have. sized_node w Whole at (applied frame h ids) (before ++ more) size (λ enough. record {
            itself = applied_fits w hidden base depth target h ids (length parts)
                (length-HaveSizes (before ++ more) ids sizes_due have ∙ length-part_sizes hidden base as_deep depth parts) head_fine
                (enough_first w hidden base depth target units behind [] entries enough);
            inside = applied_inside w hidden base depth target h (before ++ more) ids (plain_sizes hidden base depth parts (before ++ more) ids have);
          }));
    })
