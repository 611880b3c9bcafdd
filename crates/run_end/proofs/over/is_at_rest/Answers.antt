use Rattle.std.proofs.Common.{◌≡◌, ◌∙◌, false, sym, true}
use Rattle.run_end.proofs.over.is_at_rest.Goals as goal

pub returns-in-Some : goal.returns-in-Some
returns-in-Some c = (λ yes. cc, λ rest. let no : true ≡ false = sym c.in-Some.ensures.some ∙ rest.units c.in-Some.field-0.now in cc)
