-- Where the history left a unit that runs ahead of it.
use Rattle.std.specs.Prelude.{◌≡◌, ◌++◌, List, length, take, ℕ}
use Rattle.core_syntax.specs.Table.{Table}
use Rattle.eval_step.specs.Evaluation.{Evaluation, IsOf, IsSame, IsSameTask}
use Rattle.serial_model.specs.declared.answer.Answer.{Answer}
use Rattle.shared_world.specs.Ahead.{Ahead}
use Rattle.unit_table.specs.declared.unit.Unit.{Unit}
use Rattle.world_reset.specs.declared.left.Left.{Left}

-- the machine evaluates the same, and has so many answers more
pub record HasGoneOn (program : Table) (count : ℕ) (old new : Evaluation) : Type 0 where
  pub same : IsSameTask old new
  pub more : List Answer
  pub answers : new.answers ≡ old.answers ++ more
  pub counts : length more ≡ count
  pub of : IsOf program new

-- the other machine evaluates the same, and has some answers more, or none
pub record LeadsTo (machine other : Evaluation) : Type 0 where
  pub more : List Answer
  pub answers : other.answers ≡ machine.answers ++ more

-- it evaluates the same, and has the first of the answers alone, so many of them
pub record IsLeftMachine (program : Table) (count : ℕ) (machine left : Evaluation) : Type 0 where
  pub same : IsSameTask machine left
  pub answers : left.answers ≡ take count machine.answers
  pub of : IsOf program left

-- where the history left the unit
pub record IsLeft (program : Table) (x : Unit) (h : Ahead) (left : Left) : Type 0 where
  pub machine : IsLeftMachine program h.answers x.machine left.machine
  pub made : left.made ≡ h.made
  pub becomes : left.becomes ≡ h.becomes
