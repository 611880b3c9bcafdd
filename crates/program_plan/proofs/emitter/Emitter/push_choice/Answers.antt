use Rattle.std.proofs.Common.{◌∙◌}
use Rattle.program_plan.proofs.Making.{makes_then, makes_stop, makes_error, makes_bound}
use Rattle.program_plan.proofs.emitter.Emitter.push_choice.Goals as goal

pub returns-in_err-choice-clause-makes : goal.returns-in_err-choice-clause-makes
returns-in_err-choice-clause-makes c = makes_error _ c.from_residual.ensures (makes_stop _ _ c.in_err-choice.ensures.makes)

pub returns-clause-makes : goal.returns-clause-makes
returns-clause-makes c = makes_then _ c.in_ok-choice.ensures.makes (makes_bound c.args.at c.args.value _ _ _ _ _ (c.in_ok-bound.ensures ∙ c.as_slice.ensures) c.push-2.ensures.makes)
