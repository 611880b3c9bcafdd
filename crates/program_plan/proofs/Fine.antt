-- Expressions whose nodes fit, wherever enough is known of what is round them.
use Rattle.std.proofs.Common.{◌≡◌, ◌∙◌, ℕ, ◌+◌, ◌≤◌, List, [], ◌∷◌, ◌++◌, map, refl, sym, ap, subst, append_assoc, append-nil}
use Rattle.std.specs.Prelude.{Option}
use Rattle.std.proofs.lemmas.List.{map-append}
use Rattle.std.proofs.lemmas.List.Elements.{All-nil}
use Rattle.core_syntax.specs.declared.node_id.NodeId.{NodeId}
use Rattle.core_syntax.specs.Fits.{HaveSizes}
use Rattle.resolved_forms.specs.declared.expr.Expr.{Expr}
use Rattle.resolved_forms.specs.declared.layout.Hidden.{Hidden}
use Rattle.resolved_forms.specs.InRange.{Target}
use Rattle.resolved_forms.specs.declared.survey.LoopSurvey.{LoopSurvey}
use Rattle.resolved_forms.specs.declared.survey.Survey.{Survey}
use Rattle.program_plan.specs.Emitted.{Emitting, emitted}
use Rattle.program_plan.specs.Frame.{frame_of}
use Rattle.program_plan.specs.Made.{gathered}
use Rattle.resolved_forms.specs.Survey.{nothing, both, all_of, surveyed}
use Rattle.program_plan.proofs.Parting.{enough_first, enough_rest, enough_deeper, named_both, Numbered-append}
use Rattle.program_plan.proofs.Setting.{Setting, Entry, Numbered, Enough, Named, size_in}
use Rattle.program_plan.proofs.Sized.{Sized, HasSize, HaveSizes-more, HaveSizes-append, sized_followed, sized_nothing, sized_where}

abbrev pub inside_of : Entry → LoopSurvey
inside_of entry = entry.inside

-- What names this, and makes that: its loops have the numbers from one on, and it fits in each frame in which enough is
-- known, with so many locals round it and that target of `recur`.
pub record FineOf (w : Setting) (start end depth : ℕ) (target : Option Target) (survey : Survey) (emitting : Emitting) : Type 0 where
  pub entries : List Entry
  pub numbered : Numbered start end entries
  pub surveys : map inside_of entries ≡ survey.loops
  pub named : Named w survey
  pub makes : (hidden : Hidden) (base : ℕ) (before : List ℕ)
      → Sized w (Enough w hidden base depth target survey entries) (emitting (frame_of w.layout hidden base)) before entries (HasSize (size_in hidden base depth))

abbrev pub Fine : Setting → ℕ → ℕ → ℕ → Option Target → Expr → Type 0
Fine w start end depth target expr = FineOf w start end depth target (surveyed w.behaviours expr) (emitted expr)

-- parts one after another, each of them at the next depth
pub data FineParts (w : Setting) (next : ℕ → ℕ) (target : Option Target) : ℕ → ℕ → ℕ → List Expr → Type 0 where
  none : {start depth : ℕ} → FineParts w next target start start depth []
  more : {start mid end depth : ℕ} {part : Expr} {parts : List Expr} → Fine w start mid depth target part → FineParts w next target mid end (next depth) parts
      → FineParts w next target start end depth (part ∷ parts)

-- the depth behind some parts
abbrev pub depth_behind : (ℕ → ℕ) → ℕ → List Expr → ℕ
depth_behind next depth [] = depth
depth_behind next depth (part ∷ parts) = depth_behind next (next depth) parts

-- the sizes of the frames of parts
abbrev pub part_sizes : Hidden → ℕ → (ℕ → ℕ) → ℕ → List Expr → List ℕ
part_sizes hidden base next depth [] = []
part_sizes hidden base next depth (part ∷ parts) = size_in hidden base depth ∷ part_sizes hidden base next (next depth) parts

-- what several parts name
abbrev pub survey_of : Setting → List Expr → Survey
survey_of w parts = all_of (map (surveyed w.behaviours) parts)

pub named_nothing : (w : Setting) → Named w nothing
named_nothing w = record { uses = All-nil _; inside = All-nil _ }

module _ (w : Setting) (next : ℕ → ℕ) (target : Option Target) where
  abbrev pub entries_of : (start end depth : ℕ) (parts : List Expr) → FineParts w next target start end depth parts → List Entry
  entries_of start end depth [] none = []
  entries_of start end depth (part ∷ parts) (more {mid = mid} first rest) = first.entries ++ entries_of mid end (next depth) parts rest

  pub parts_numbered : (start end depth : ℕ) (parts : List Expr) (fine : FineParts w next target start end depth parts) → Numbered start end (entries_of start end depth parts fine)
  parts_numbered start end depth [] none = refl
  parts_numbered start end depth (part ∷ parts) (more {mid = mid} first rest) =
      Numbered-append start mid end first.entries (entries_of mid end (next depth) parts rest) first.numbered (parts_numbered mid end (next depth) parts rest)

  pub parts_surveyed : (start end depth : ℕ) (parts : List Expr) (fine : FineParts w next target start end depth parts)
      → map inside_of (entries_of start end depth parts fine) ≡ (survey_of w parts).loops
  parts_surveyed start end depth [] none = refl
  parts_surveyed start end depth (part ∷ parts) (more {mid = mid} first rest) =
      map-append inside_of first.entries (entries_of mid end (next depth) parts rest)
      ∙ ap (λ l. l ++ map inside_of (entries_of mid end (next depth) parts rest)) first.surveys
      ∙ ap (λ l. (surveyed w.behaviours part).loops ++ l) (parts_surveyed mid end (next depth) parts rest)

  pub parts_named : (start end depth : ℕ) (parts : List Expr) → FineParts w next target start end depth parts → Named w (survey_of w parts)
  parts_named start end depth [] none = named_nothing w
  parts_named start end depth (part ∷ parts) (more {mid = mid} first rest) =
      named_both w (surveyed w.behaviours part) (survey_of w parts) first.named (parts_named mid end (next depth) parts rest)

  -- parts that are made one after another have the sizes of their frames
  pub parts_sized : (rises : (n : ℕ) → n ≤ next n) (start end depth : ℕ) (parts : List Expr) (fine : FineParts w next target start end depth parts)
      (hidden : Hidden) (base number : ℕ) (done : List NodeId) (ns before : List ℕ) → HaveSizes before done ns
      → Sized w (Enough w hidden base depth target (survey_of w parts) (entries_of start end depth parts fine))
      (gathered (λ (k : ℕ) (part : Emitting). part (frame_of w.layout hidden base)) number done (map emitted parts)) before (entries_of start end depth parts fine)
      (λ sizes ids. HaveSizes sizes ids (ns ++ part_sizes hidden base next depth parts))
  parts_sized rises start end depth [] none hidden base number done ns before have =
      sized_nothing w _ done before (λ sizes ids. HaveSizes sizes ids (ns ++ [])) (subst (λ l. HaveSizes before done l) (sym (append-nil ns)) have)
  parts_sized rises start end depth (part ∷ parts) (more {mid = mid} first rest) hidden base number done ns before have =
      let frame = frame_of w.layout hidden base in
      let size = size_in hidden base depth in
      let left = entries_of mid end (next depth) parts rest in
      let own = surveyed w.behaviours part in
      let behind = survey_of w parts in
      let Whole : Type 0 = Enough w hidden base depth target (both own behind) (first.entries ++ left) in
      let due = ns ++ size ∷ part_sizes hidden base next (next depth) parts in
      sized_followed w Whole (emitted part frame) (λ y. gathered (λ (k : ℕ) (p : Emitting). p frame) (number + 1) (done ++ y ∷ []) (map emitted parts)) before first.entries left
      (HasSize size) (λ sizes ids. HaveSizes sizes ids due)
      (sized_where w (Enough w hidden base depth target own first.entries) Whole (emitted part frame) before first.entries (HasSize size)
      (λ enough. enough_first w hidden base depth target own behind first.entries left enough) (first.makes hidden base before))
      (λ sizes id is.
      let together : HaveSizes (before ++ sizes) (done ++ id ∷ []) (ns ++ size ∷ []) = HaveSizes-append (before ++ sizes) done (id ∷ []) ns (size ∷ []) (HaveSizes-more before sizes done ns have) (is, tt) in
      let others = parts_sized rises mid end (next depth) parts rest hidden base (number + 1) (done ++ id ∷ []) (ns ++ size ∷ []) (before ++ sizes) together in
      let go = gathered (λ (k : ℕ) (p : Emitting). p frame) (number + 1) (done ++ id ∷ []) (map emitted parts) in
      sized_where w (Enough w hidden base (next depth) target behind left) Whole go (before ++ sizes) left (λ sizes ids. HaveSizes sizes ids due)
      (λ enough. enough_deeper w hidden base depth (next depth) target behind left (rises depth) (enough_rest w hidden base depth target own behind first.entries left enough))
      (subst (λ l. Sized w (Enough w hidden base (next depth) target behind left) go (before ++ sizes) left (λ sizes ids. HaveSizes sizes ids l))
      (append_assoc ns (size ∷ []) (part_sizes hidden base next (next depth) parts)) others))
