-- Refusals are passed on.
use Rattle.std.proofs.Common.{◌≡◌, ℕ, List, None, subst}
use Rattle.core_syntax.specs.Table.{Table}
use Rattle.sexpr_reader.specs.declared.form.Form.{Form}
use Rattle.plan_errors.specs.declared.error.PlanNo.{PlanNo}
use Rattle.plan_errors.specs.declared.error.PlanNo.TheVariants.{Memory, Refused}
use Rattle.resolved_forms.specs.declared.top.Top.{Top}
use Rattle.program_plan.specs.Planned as planned
use Rattle.program_plan.specs.Planned.{IsPlanned, IsUnplanned}
use Rattle.scope_check.specs.Check.{IsProgram, IsRefused, unplanned, RefusedAs, scope_no, tops_in, globals_in, wrong_in}

-- the forms are those for which the plan was made
module _ (forms : List Form) (tops : List Top) (globals : ℕ) (tops_are : tops ≡ tops_in forms) (globals_are : globals ≡ globals_in forms) (right : wrong_in forms ≡ None) where
  pub program_from_plan : (table : Table) → IsPlanned tops globals table → IsProgram forms table
  program_from_plan table plan = record {
    nothing_wrong = right;
    planned = subst (λ g. IsPlanned (tops_in forms) g table) globals_are (subst (λ t. IsPlanned t globals table) tops_are plan);
  }

  pub refusal_from_plan : (no : PlanNo) → planned.RefusedAs (IsUnplanned tops globals) no → RefusedAs (IsRefused forms) (scope_no no)
  refusal_from_plan Memory h = tt
  refusal_from_plan (Refused kind at) h =
      unplanned right (subst (λ g. IsUnplanned (tops_in forms) g kind at) globals_are (subst (λ t. IsUnplanned t globals kind at) tops_are h))
