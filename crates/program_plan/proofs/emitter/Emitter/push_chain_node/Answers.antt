use Rattle.program_plan.proofs.Making.{makes_then, makes_stop, makes_error}
use Rattle.program_plan.proofs.emitter.Emitter.push_chain_node.Goals as goal

pub returns-in_err-again-in-And-clause-makes : goal.returns-in_err-again-in-And-clause-makes
returns-in_err-again-in-And-clause-makes c = rw c.in-And.is (makes_error _ c.from_residual.ensures (makes_stop _ _ c.in_err-again-in-And.ensures.makes))

pub returns-in_ok-again-in-And-clause-makes : goal.returns-in_ok-again-in-And-clause-makes
returns-in_ok-again-in-And-clause-makes c = rw c.in-And.is (makes_then _ c.in_ok-again-in-And.ensures.makes c.push_choice.ensures.makes)
