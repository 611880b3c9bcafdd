use Rattle.std.proofs.Common.{◌∙◌, sym, subst}
use Rattle.std.specs.List.Sorted.{IsNonDecreasing}
use Rattle.program_plan.proofs.Numbers.{range-rises}
use Rattle.program_plan.proofs.lower.add_step.Goals as goal

pub main-frame-requires-clause-globals : goal.main-frame-requires-clause-globals
main-frame-requires-clause-globals c = subst IsNonDecreasing (sym (c.items.ensures ∙ c.requires.globals)) (range-rises _)
