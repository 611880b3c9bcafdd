-- Steps that are ready to be settled.
use Rattle.std.specs.Prelude.{◌≡◌, ◌<◌}
use Rattle.eval_step.specs.Evaluation.{Evaluation}
use Rattle.world_steps.specs.declared.kept.Kept.{Kept}
use Rattle.world_steps.specs.declared.kept.Marks.{Marks}
use Rattle.world_steps.specs.declared.kept.Ready.{Ready}
use Rattle.serial_model.specs.declared.entry.Entry.TheVariants.{Run}
use Rattle.serial_model.specs.declared.answer.Answer.TheVariants as answer
use Rattle.task_fork_join.specs.Stepping.{IsGiven}
use Rattle.value_core.specs.declared.value.Value.{Value}
use Rattle.value_core.specs.Named.{Name}

-- both entries are those of the unit
pub record AreMarks (name : Name) (m : Marks) : Type 0 where
  pub entry : m.entry ≡ Run name
  pub told : m.told ≡ Run name

-- there is room for an entry, and the machine was given that value
pub record IsReady (k : Kept) (name : Name) (moved : Evaluation) (v : Value) (r : Ready) : Type 0 where
  pub room : 0 < k.history.room
  pub marks : AreMarks name r.marks
  pub given : IsGiven moved (answer.Value v) r.machine
