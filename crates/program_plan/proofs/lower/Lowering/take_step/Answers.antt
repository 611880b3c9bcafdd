use Rattle.program_plan.proofs.LoweredParts.{IsLowered-makes, IsLowered-step}
use Rattle.program_plan.specs.Emitted.{emitted}
use Rattle.program_plan.specs.Lowered.{main_frame}
use Rattle.program_plan.proofs.lower.Lowering.take_step.Goals as goal

pub invariant_of-self : goal.invariant_of-self
invariant_of-self c =
    IsLowered-step c.add_step.new.emitter.rows c.self.inside.globals _ c.self.inside.functions c.self.inside.behaviours c.self.inside.steps _ _ c.in_ok-add_step.ensures.steps c.in_ok-add_step.ensures.globals c.in_ok-add_step.ensures.below
    (IsLowered-makes {p = emitted c.args.expr.now (main_frame c.args.layout.now c.self.inside.steps)} c.self.inside.globals c.self.inside.functions c.self.inside.behaviours c.self.inside.steps (record { made = c.in_ok-add_step.ensures.made; past = tt }) c.self.invariant)
