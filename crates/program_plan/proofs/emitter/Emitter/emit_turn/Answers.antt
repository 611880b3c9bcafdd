use Rattle.program_plan.specs.Emitted.{turn_of}
use Rattle.program_plan.proofs.LoweredParts.{turn_if}
use Rattle.program_plan.proofs.Making.{makes_then, makes_stop, makes_error}
use Rattle.program_plan.proofs.emitter.Emitter.emit_turn.Goals as goal

pub returns-in_err-id-clause-makes : goal.returns-in_err-id-clause-makes
unfolding turn_of
returns-in_err-id-clause-makes c = makes_error _ c.from_residual.ensures (makes_stop _ _ c.in_err-id.ensures.makes)

pub returns-clause-makes : goal.returns-clause-makes
unfolding turn_of
returns-clause-makes c = makes_then _ c.in_ok-id.ensures.makes c.push.ensures.makes

pub returns-clause-turn : goal.returns-clause-turn
returns-clause-turn c = turn_if c.push.result c.args.at _ _ c.push.ensures.makes
