use Rattle.std.proofs.Common.{◌≡◌}
use Rattle.eval_frames.specs.declared.at.At.TheVariants.{Arguments}
use Rattle.eval_step.specs.Walk.{Keeps}
use Rattle.eval_step.proofs.walk.Walk.take_arguments.Given as goal

abbrev pub invariant-loop-argument : goal.invariant-loop-argument
invariant-loop-argument l = record {
  keeps : Keeps l.program (record { at = Arguments l.id l.fn.from; registers = l.initial.self.registers; context = l.initial.self.context; left = l.initial.self.left })
      (record { at = Arguments l.id l.number; registers = l.self.registers; context = l.self.context; left = l.self.left });
  at : l.self.at ≡ l.initial.self.at;
}

abbrev pub decreases-loop-argument : goal.decreases-loop-argument
decreases-loop-argument l = l.self.left
