use Rattle.std.proofs.Common.{◌≡◌, None, Some, sym, ◌∙◌}
use Rattle.scope_check.specs.Check.{wrong, wrong_in}
use Rattle.scope_check.proofs.Passing.{program_from_plan, refusal_from_plan}
use Rattle.scope_check.proofs.checking.check.Goals as goal

-- something is wrong with the forms
pub returns-in-Some-clause-refused : goal.returns-in-Some-clause-refused
returns-in-Some-clause-refused c =
    let found : wrong_in c.args.forms.now ≡ Some c.in-Some.refusal = sym c.in_ok-tops.ensures.found.wrong ∙ c.in-Some.is in
    rw c.refused.ensures (wrong found)

-- nothing is, and there is a program
pub returns-in-Ok-clause-program : goal.returns-in-Ok-clause-program
returns-in-Ok-clause-program c =
    let right : wrong_in c.args.forms.now ≡ None = sym c.in_ok-tops.ensures.found.wrong ∙ c.in-None.is in
    program_from_plan c.args.forms.now _ _ c.in_ok-tops.ensures.found.tops c.in_ok-tops.ensures.found.globals right _ c.in-Ok.ensures.program

pub returns-in-Ok-clause-fits : goal.returns-in-Ok-clause-fits
returns-in-Ok-clause-fits c = c.in-Ok.ensures.fits (c.in_ok-tops.ensures.in_range c.in-None.is)

-- nothing is, and there is none
pub returns-clause-refused : goal.returns-clause-refused
returns-clause-refused c =
    let right : wrong_in c.args.forms.now ≡ None = sym c.in_ok-tops.ensures.found.wrong ∙ c.in-None.is in
    rw c.scope_no.ensures (refusal_from_plan c.args.forms.now _ _ c.in_ok-tops.ensures.found.tops c.in_ok-tops.ensures.found.globals right _ c.in-Err.ensures.refused)
