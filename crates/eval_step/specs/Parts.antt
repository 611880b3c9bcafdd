-- The parts of a machine.
use Rattle.eval_step.specs.declared.parts.Parts.{Parts}
use Rattle.eval_step.specs.Evaluation.{Evaluation}
use Rattle.eval_step.specs.Standing.{standing_of}

-- the evaluation that they are
abbrev pub evaluation_of : Parts → Evaluation
evaluation_of p = record { body = p.body; values = p.values; inside = p.inside; fuel = p.fuel; answers = p.answers; inner = standing_of p.inner }
