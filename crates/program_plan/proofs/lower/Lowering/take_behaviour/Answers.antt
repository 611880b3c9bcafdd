use Rattle.std.proofs.Common.{length}
use Rattle.program_plan.specs.Lowered.{behaviour_making}
use Rattle.program_plan.proofs.LoweredParts.{IsLowered-makes, IsLowered-behaviour}
use Rattle.program_plan.proofs.lower.Lowering.take_behaviour.Goals as goal

pub invariant_of-self : goal.invariant_of-self
invariant_of-self c =
    let making = behaviour_making c.args.layout.now (length c.self.inside.behaviours) c.args.head c.args.expr.now in
    IsLowered-behaviour c.add_behaviour.new.emitter.rows c.self.inside.globals c.self.inside.functions c.self.inside.behaviours _ c.self.inside.steps _ c.in_ok-add_behaviour.ensures.behaviours c.in_ok-add_behaviour.ensures.turn
    (IsLowered-makes {p = making} c.self.inside.globals c.self.inside.functions c.self.inside.behaviours c.self.inside.steps (record { made = c.in_ok-add_behaviour.ensures.made; past = tt }) c.self.invariant)
