-- A machine that ran to a halt stands there.
use Rattle.std.proofs.Common.{◌≡◌, ◌∙◌, sym}
use Rattle.core_syntax.specs.Table.{Table}
use Rattle.eval_step.specs.Evaluation.{Evaluation, IsAsk, IsAsking, IsSame}
use Rattle.serial_model.specs.declared.halt.Halt.{Halt}
use Rattle.serial_model.specs.Eval.{next}
use Rattle.task_fork_join.specs.Step.{HaltsAt}

-- what the run of a machine ensures is what a step of a task asks for
pub halts_at : (program : Table) (before moved : Evaluation) (halts : Halt) → halts ≡ next program before.body before.values before.inside before.answers before.fuel
    → IsSame before moved → (IsAsk halts → IsAsking moved) → HaltsAt moved halts
halts_at program before moved halts comes same asks = λ is. record {
  asking = asks is;
  program = program;
  comes = (λ i. next program (same.task.body i) (same.task.values i) (same.task.inside i) (same.answers i) (same.task.fuel i)) ∙ sym comes;
}
