-- A refusal for too many nodes is passed on.
use Rattle.std.proofs.Common.{◌≡◌, ℕ, List, None, Some, Result, Ok, Err, sym, subst}
use Rattle.std.specs.Prelude.{IfErr}
use Rattle.plan_errors.specs.declared.error.PlanNo.{PlanNo}
use Rattle.plan_errors.specs.declared.error.PlanNo.TheVariants.{Memory, Refused}
use Rattle.resolved_forms.specs.declared.top.Top.{Top}
use Rattle.program_plan.specs.Lowered as lowered
use Rattle.program_plan.specs.Planned.{IsUnplanned, too_many, Reached, RefusedAs, early_in, layout_in}

pub from_lowered : {T : Type 0} (r : Result T PlanNo) (tops : List Top) (globals : ℕ) (lists : List (List ℕ)) → Reached tops globals lists → early_in tops lists ≡ None
    → IfErr r (lowered.RefusedAs (λ at. lowered.first_past (layout_in tops lists) tops ≡ Some at)) → IfErr r (RefusedAs (IsUnplanned tops globals))
from_lowered (Ok x) tops globals lists reached none h = tt
from_lowered (Err Memory) tops globals lists reached none h = tt
from_lowered (Err (Refused kind at)) tops globals lists reached none h = subst (λ k. IsUnplanned tops globals k at) (sym h.0) (too_many lists reached none h.1)
