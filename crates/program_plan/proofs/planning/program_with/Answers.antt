use Rattle.std.proofs.Common.{◌≡◌, None, Some, sym, ap, subst, ◌∙◌}
use Rattle.std.specs.Prelude.{IfErr}
use Rattle.early_globals.specs.Early.{first_early}
use Rattle.program_plan.specs.Lowered as lowered
use Rattle.resolved_forms.specs.Units.{layout_of}
use Rattle.program_plan.specs.Planned.{early, early_in, layout_in}
use Rattle.program_plan.proofs.Passing.{from_lowered}
use Rattle.program_plan.proofs.Rising.{layout_rises}
use Rattle.program_plan.proofs.planning.program_with.Goals as goal

-- a form is early
pub returns-in-Some-clause-refused : goal.returns-in-Some-clause-refused
returns-in-Some-clause-refused c =
    let found : early_in c.args.tops.now c.args.lists.now ≡ Some c.in-Some.at = ap (λ s. first_early s.forms c.args.lists.now) (sym c.requires.survey) ∙ sym c.first_early.ensures ∙ c.in-Some.is in
    rw c.refused.ensures (early c.args.lists.now c.requires.reached found)

pub lower-requires : goal.lower-requires
lower-requires c = rw c.in_ok-layout.ensures (layout_rises _ _ c.args.survey.now c.args.lists.now c.requires.reached)

-- none is
pub returns-clause-refused : goal.returns-clause-refused
returns-clause-refused c =
    let none : early_in c.args.tops.now c.args.lists.now ≡ None = ap (λ s. first_early s.forms c.args.lists.now) (sym c.requires.survey) ∙ sym c.first_early.ensures ∙ c.in_default.is in
    let layout : c.in_ok-layout.layout ≡ layout_in c.args.tops.now c.args.lists.now = c.in_ok-layout.ensures ∙ ap (λ s. layout_of s c.args.lists.now) c.requires.survey in
    from_lowered c.lower.result c.args.tops.now c.args.globals c.args.lists.now c.requires.reached none
    (subst (λ l. IfErr c.lower.result (lowered.RefusedAs (λ at. lowered.first_past l c.args.tops.now ≡ Some at))) layout c.lower.ensures.refused)
