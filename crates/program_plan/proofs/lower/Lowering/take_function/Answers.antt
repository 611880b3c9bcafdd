use Rattle.std.proofs.Common.{length}
use Rattle.program_plan.specs.Emitted.{emitted}
use Rattle.program_plan.specs.Frame.{frame_of, hidden_at}
use Rattle.program_plan.proofs.LoweredParts.{IsLowered-makes, IsLowered-function}
use Rattle.program_plan.proofs.lower.Lowering.take_function.Goals as goal

pub invariant_of-self : goal.invariant_of-self
invariant_of-self c =
    let layout = c.args.layout.now in
    let making = emitted c.args.expr.now (frame_of layout (hidden_at layout.functions (length c.self.inside.functions)) 0) in
    IsLowered-function c.add_function.new.emitter.rows c.self.inside.globals c.self.inside.functions _ c.self.inside.behaviours c.self.inside.steps _ c.in_ok-add_function.ensures.functions c.in_ok-add_function.ensures.below
    (IsLowered-makes {p = making} c.self.inside.globals c.self.inside.functions c.self.inside.behaviours c.self.inside.steps (record { made = c.in_ok-add_function.ensures.made; past = tt }) c.self.invariant)
