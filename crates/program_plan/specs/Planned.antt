-- The program of resolved top-level forms, and the refusal of forms that have none.
use Rattle.std.specs.Prelude.{◌≡◌, ℕ, List, Option, None, Some}
use Rattle.value_core.specs.Place.{Spot}
use Rattle.core_syntax.specs.Table.{Table}
use Rattle.plan_errors.specs.declared.error.PlanKind.{PlanKind}
use Rattle.plan_errors.specs.declared.error.PlanKind.TheVariants.{EarlyGlobal, TooManyNodes}
use Rattle.plan_errors.specs.declared.error.PlanNo.{PlanNo}
use Rattle.plan_errors.specs.declared.error.PlanNo.TheVariants.{Memory, Refused}
use Rattle.resolved_forms.specs.declared.layout.Layout.{Layout}
use Rattle.resolved_forms.specs.declared.top.Top.{Top}
use Rattle.early_globals.specs.Early.{first_early}
use Rattle.program_plan.specs.Lowered.{first_past, program_of}
use Rattle.resolved_forms.specs.Units.{all_units, layout_of}
use Rattle.resolved_forms.specs.Reach.{AreReached}
use Rattle.resolved_forms.specs.TopSurvey.{tops_surveyed}

-- these lists have the globals that each unit of code reaches, of so many globals in all
abbrev pub Reached : List Top → ℕ → List (List ℕ) → Type 0
Reached tops globals lists = AreReached (all_units (tops_surveyed tops)) globals lists

-- the first form that reaches a global which is bound by itself or below it
abbrev pub early_in : List Top → List (List ℕ) → Option Spot
early_in tops lists = first_early (tops_surveyed tops).forms lists

abbrev pub layout_in : List Top → List (List ℕ) → Layout
layout_in tops lists = layout_of (tops_surveyed tops) lists

-- No form reaches a global too early, and the nodes are not too many. The hidden arguments of each function and behaviour
-- are the globals that it reaches, and for a loop the locals too that it takes from round it.
pub record IsPlanned (tops : List Top) (globals : ℕ) (table : Table) : Type 0 where
  pub lists : List (List ℕ)
  pub reached : Reached tops globals lists
  pub none_early : early_in tops lists ≡ None
  pub within : first_past (layout_in tops lists) tops ≡ None
  pub is : table ≡ program_of (layout_in tops lists) tops

-- Else the first form that reaches a global too early is refused; and only where there is none, the first form up to and
-- with which the nodes are too many.
pub data IsUnplanned (tops : List Top) (globals : ℕ) : PlanKind → Spot → Type 0 where
  early : {at : Spot} (lists : List (List ℕ)) → Reached tops globals lists → early_in tops lists ≡ Some at → IsUnplanned tops globals EarlyGlobal at
  too_many : {at : Spot} (lists : List (List ℕ)) → Reached tops globals lists → early_in tops lists ≡ None
      → first_past (layout_in tops lists) tops ≡ Some at → IsUnplanned tops globals TooManyNodes at

-- the error is a refusal that is due for such a cause; want of memory is free
abbrev pub RefusedAs : (PlanKind → Spot → Type 0) → PlanNo → Type 0
RefusedAs cause Memory = Unit {0}
RefusedAs cause (Refused kind at) = cause kind at
