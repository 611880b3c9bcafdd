-- All forms have a program or are refused.
use Rattle.std.proofs.Common.{◌≡◌, ◌⊎◌, inl, inr, List, Option, None, Some, refl}
use Rattle.value_core.specs.Place.{Spot}
use Rattle.core_syntax.specs.Table.{Table}
use Rattle.sexpr_reader.specs.declared.form.Form.{Form}
use Rattle.plan_errors.specs.declared.error.PlanKind.{PlanKind}
use Rattle.program_plan.specs.Planned.{IsPlanned, IsUnplanned}
use Rattle.program_plan.proofs.Every.{every_plan}
use Rattle.scope_refusals.specs.declared.kind.ScopeKind.{ScopeKind}
use Rattle.scope_refusals.specs.declared.refusal.Refusal.{Refusal}
use Rattle.scope_check.specs.Check.{IsProgram, IsRefused, wrong, unplanned, tops_in, globals_in, wrong_in}

abbrev Either : List Form → Type 0
Either forms = ((table : Table) × IsProgram forms table) ⊎ ((kind : ScopeKind) × (at : Spot) × IsRefused forms kind at)

by_plan : (forms : List Form) → wrong_in forms ≡ None
    → ((table : Table) × IsPlanned (tops_in forms) (globals_in forms) table) ⊎ ((kind : PlanKind) × (at : Spot) × IsUnplanned (tops_in forms) (globals_in forms) kind at)
    → Either forms
by_plan forms right (inl plan) = inl (plan.0, record { nothing_wrong = right; planned = plan.1 })
by_plan forms right (inr why) = inr (_, why.1, unplanned right why.2)

by_wrong : (forms : List Form) (found : Option Refusal) → wrong_in forms ≡ found → Either forms
by_wrong forms None is = by_plan forms is (every_plan (tops_in forms) (globals_in forms))
by_wrong forms (Some refusal) is = inr (refusal.kind, refusal.at, wrong is)

pub every_source : (forms : List Form) → Either forms
every_source forms = by_wrong forms (wrong_in forms) refl
