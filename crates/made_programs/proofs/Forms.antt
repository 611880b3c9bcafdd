-- The top-level forms of a program one after another: what each comes to where it stands, and what all of them come to.
use Rattle.std.proofs.Common.{◌≡◌, ℕ, ◌+◌, List, [], ◌∷◌, map, refl, ap, ◌∙◌}
use Rattle.value_core.specs.Place.{Spot}
use Rattle.sugar.specs.declared.core_form.Core.{Core}
use Rattle.sugar.specs.Meaning.{Meaning, cores}
use Rattle.resolved_forms.specs.declared.top.Top.{Top}
use Rattle.resolved_forms.specs.declared.top.TopKind.{TopKind}
use Rattle.resolved_forms.specs.declared.top_survey.TopSurvey.{TopSurvey}
use Rattle.resolved_forms.specs.FormsInRange.{functions_behind}
use Rattle.resolved_forms.specs.TopSurvey.{both_tops, no_tops, top_survey, tops_from}
use Rattle.scope_check.specs.declared.declared.Declared.{Declared}
use Rattle.scope_check.specs.Declaring.{declare, declare_all}
use Rattle.scope_check.specs.Tops.{TopResolved, TopsResolved, first_top, top_at, top_of, tops_of}
use Rattle.made_programs.proofs.MadeTrees.{next}
use Rattle.made_programs.proofs.Sizes.{AreSized, IsSized}
use Rattle.made_programs.proofs.Topped.{definitions, fine}

-- what stands before a form: how many names were made, what is defined, and how many functions, loops and globals there are
pub record Before : Type 0 where
  pub made : ℕ
  pub declared : Declared
  pub functions : ℕ
  pub loops : ℕ
  pub globals : ℕ

-- a form: what it means, its core form, where it is and of which kind, what it names, and how many nodes it becomes at most
pub record MadeForm : Type 0 where
  pub meaning : Meaning
  pub core : Core
  pub at : Spot
  pub kind : TopKind
  pub survey : TopSurvey
  pub most : ℕ

abbrev pub top_of_form : MadeForm → Top
top_of_form f = top_at f.at f.kind

-- it is so where that stands before it, and then this stands before the next one
pub record Goes (f : MadeForm) (old new : Before) : Type 0 where
  pub expanded : f.meaning.core old.made ≡ f.core
  pub made : old.made + f.meaning.made ≡ new.made
  pub declared : declare f.core old.declared ≡ new.declared
  pub resolved : top_of f.core old.functions definitions old.loops ≡ fine f.at f.kind new.loops
  pub functions : functions_behind f.kind old.functions ≡ new.functions
  pub surveyed : top_survey 2 old.globals f.at f.kind ≡ f.survey
  pub globals : f.survey.globals ≡ new.globals
  pub sized : IsSized f.most (top_of_form f)

-- so do some, one after another
abbrev pub AllGo : List MadeForm → Before → Before → Type 0
AllGo [] old new = old ≡ new
AllGo (f ∷ fs) old new = (mid : Before) × Goes f old mid × AllGo fs mid new

abbrev pub cores_of_all : List MadeForm → List Core
cores_of_all fs = map (λ (f : MadeForm). f.core) fs

abbrev pub tops_of_all : List MadeForm → List Top
tops_of_all fs = map top_of_form fs

-- ---- what they come to
pub expanded_all : (fs : List MadeForm) (old new : Before) → AllGo fs old new → cores (map (λ (f : MadeForm). f.meaning) fs) old.made ≡ cores_of_all fs
expanded_all [] old new all = refl
expanded_all (f ∷ fs) old new all =
    let meanings = map (λ (f : MadeForm). f.meaning) fs in
    next all.1.expanded (ap (cores meanings) all.1.made ∙ expanded_all fs all.0 new all.2)

pub declared_all : (fs : List MadeForm) (old new : Before) → AllGo fs old new → declare_all (cores_of_all fs) old.declared ≡ new.declared
declared_all [] old new all = ap (λ (b : Before). b.declared) all
declared_all (f ∷ fs) old new all = ap (declare_all (cores_of_all fs)) all.1.declared ∙ declared_all fs all.0 new all.2

abbrev pub all_fine : List MadeForm → ℕ → TopsResolved
all_fine fs loops = record { tops = tops_of_all fs; loops = loops; refusals = [] }

pub resolved_all : (fs : List MadeForm) (old new : Before) → AllGo fs old new → tops_of (cores_of_all fs) old.functions definitions old.loops ≡ all_fine fs new.loops
resolved_all [] old new all = ap (λ (b : Before). all_fine [] b.loops) all
resolved_all (f ∷ fs) old new all =
    let first = fine f.at f.kind all.0.loops in
    ap (λ (r : TopResolved). first_top r (tops_of (cores_of_all fs) (functions_behind r.top.kind old.functions) definitions r.loops)) all.1.resolved
    ∙ ap (λ n. first_top first (tops_of (cores_of_all fs) n definitions all.0.loops)) all.1.functions ∙ ap (first_top first) (resolved_all fs all.0 new all.2)

-- what they name, and what is named behind them
abbrev pub surveys : List MadeForm → TopSurvey → TopSurvey
surveys [] behind = behind
surveys (f ∷ fs) behind = both_tops f.survey (surveys fs behind)

pub surveyed_all : (fs : List MadeForm) (old new : Before) → AllGo fs old new → tops_from 2 old.globals (tops_of_all fs) ≡ surveys fs (no_tops new.globals)
surveyed_all [] old new all = ap (λ (b : Before). no_tops b.globals) all
surveyed_all (f ∷ fs) old new all =
    ap (λ (s : TopSurvey). both_tops s (tops_from 2 s.globals (tops_of_all fs))) all.1.surveyed
    ∙ ap (λ n. both_tops f.survey (tops_from 2 n (tops_of_all fs))) all.1.globals ∙ ap (both_tops f.survey) (surveyed_all fs all.0 new all.2)

pub sized_all : (fs : List MadeForm) (old new : Before) → AllGo fs old new → AreSized (map (λ (f : MadeForm). f.most) fs) (tops_of_all fs)
sized_all [] old new all = tt
sized_all (f ∷ fs) old new all = (all.1.sized, sized_all fs all.0 new all.2)
