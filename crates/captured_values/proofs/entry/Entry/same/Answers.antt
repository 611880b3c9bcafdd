use Rattle.std.proofs.Common.{◌∙◌, sym, subst}
use Rattle.captured_values.specs.Told.{IsTold}
use Rattle.captured_values.proofs.Told.{told_same}
use Rattle.captured_values.proofs.entry.Entry.same.Goals as goal

pub returns-in-Some-Some : goal.returns-in-Some-Some
returns-in-Some-Some c =
    let one = subst (λ r. IsTold r c.self.inside.value) c.in-Some-Some.is-0 c.self.invariant in
    let other = subst (λ r. IsTold r c.other.inside.value) c.in-Some-Some.is-1 c.other.invariant in
    let both = told_same c.in-Some-Some.runs c.in-Some-Some.others c.self.inside.value c.other.inside.value one other in (
      λ t. sym c.self.view_is ∙ both.0 (c.same.ensures.0 t) ∙ c.other.view_is,
      λ e. c.same.ensures.1 (both.1 (c.self.view_is ∙ e ∙ sym c.other.view_is)),
    )
