-- The program of the forms of a source, and the refusal of forms that have none.
use Rattle.std.specs.Prelude.{◌≡◌, ℕ, List, ◌++◌, Option, None, Some}
use Rattle.value_core.specs.Place.{Spot}
use Rattle.core_syntax.specs.Table.{Table}
use Rattle.sexpr_reader.specs.declared.form.Form.{Form}
use Rattle.sugar.specs.Expansion.{expanded}
use Rattle.plan_errors.specs.declared.error.PlanKind.{PlanKind}
use Rattle.plan_errors.specs.declared.error.PlanKind.TheVariants as plan
use Rattle.plan_errors.specs.declared.error.PlanNo.{PlanNo}
use Rattle.plan_errors.specs.declared.error.PlanNo.TheVariants as why
use Rattle.resolved_forms.specs.declared.top.Top.{Top}
use Rattle.program_plan.specs.Planned.{IsPlanned, IsUnplanned}
use Rattle.scope_check.specs.declared.checking.Found.{Found}
use Rattle.scope_check.specs.declared.declared.Declared.{Declared}
use Rattle.scope_refusals.specs.declared.kind.ScopeKind.{ScopeKind}
use Rattle.scope_refusals.specs.declared.kind.ScopeKind.TheVariants.{EarlyGlobal, TooManyNodes}
use Rattle.scope_check.specs.declared.error.ScopeNo.{ScopeNo}
use Rattle.scope_check.specs.declared.error.ScopeNo.TheVariants.{Memory, Refused}
use Rattle.scope_refusals.specs.declared.refusal.Refusal.{Refusal}
use Rattle.scope_check.specs.Declaring.{declare_all, nothing}
use Rattle.scope_refusals.specs.First.{first_of}
use Rattle.scope_check.specs.Resolved.{refusal}
use Rattle.scope_check.specs.Tops.{TopsResolved, tops_of}

-- what the top-level forms define
abbrev pub declared_in : List Form → Declared
declared_in forms = declare_all (expanded forms) nothing

-- what they come to: the numbers of loops follow those of the functions that are written
abbrev pub resolved_in : List Form → TopsResolved
resolved_in forms = tops_of (expanded forms) 0 (declared_in forms).definitions (declared_in forms).functions

abbrev pub tops_in : List Form → List Top
tops_in forms = (resolved_in forms).tops

abbrev pub globals_in : List Form → ℕ
globals_in forms = (declared_in forms).globals

-- what is wrong with them, of the kinds that each form shows by itself: the first counts
abbrev pub wrong_in : List Form → Option Refusal
wrong_in forms = first_of ((declared_in forms).refusals ++ (resolved_in forms).refusals)

-- what is wrong with forms that are resolved, among all that can be wrong
abbrev pub kind_of : PlanKind → ScopeKind
kind_of plan.EarlyGlobal = EarlyGlobal
kind_of plan.TooManyNodes = TooManyNodes

-- why forms have no program, where what they come to has none
abbrev pub scope_no : PlanNo → ScopeNo
scope_no why.Memory = Memory
scope_no (why.Refused kind at) = Refused (kind_of kind) at

-- forms have a program where nothing is wrong with them and what they come to has one
pub record IsProgram (forms : List Form) (table : Table) : Type 0 where
  pub nothing_wrong : wrong_in forms ≡ None
  pub planned : IsPlanned (tops_in forms) (globals_in forms) table

-- else the refusal is what is wrong with them, and only where nothing is, that of what they come to
pub data IsRefused (forms : List Form) : ScopeKind → Spot → Type 0 where
  wrong : {kind : ScopeKind} {at : Spot} → wrong_in forms ≡ Some (refusal kind at) → IsRefused forms kind at
  unplanned : {kind : PlanKind} {at : Spot} → wrong_in forms ≡ None → IsUnplanned (tops_in forms) (globals_in forms) kind at → IsRefused forms (kind_of kind) at

-- the error is a refusal that is due for such a cause; want of memory is free
abbrev pub RefusedAs : (ScopeKind → Spot → Type 0) → ScopeNo → Type 0
RefusedAs cause Memory = Unit {0}
RefusedAs cause (Refused kind at) = cause kind at

-- what was found in some forms
pub record IsFound (forms : List Form) (found : Found) : Type 0 where
  pub tops : found.tops ≡ tops_in forms
  pub globals : found.globals ≡ globals_in forms
  pub wrong : found.wrong ≡ wrong_in forms
