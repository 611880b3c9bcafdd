use Rattle.std.proofs.Common.{◌≡◌, List}
use Rattle.serial_model.specs.declared.answer.Answer.{Answer}
use Rattle.eval_step.specs.Walk.{FailedAt, Goes, IsThere, control_of, outcome_from, work}
use Rattle.eval_step.proofs.walk.Walk.run.Given as goal

abbrev pub invariant-loop-self : goal.invariant-loop-self
invariant-loop-self l = record {
  there : Goes (control_of l.self) → IsThere l.program l.self;
  same : (answers : List Answer) → outcome_from l.program l.inside l.initial.self answers ≡ outcome_from l.program l.inside l.self answers;
  failed : FailedAt (control_of l.initial.self) → FailedAt (control_of l.self);
}

abbrev pub decreases-loop-self : goal.decreases-loop-self
decreases-loop-self l = work l.self
