-- Tasks that wait for the turn that their unit is, and units that wait.
use Rattle.std.specs.Prelude.{◌≡◌, ℕ, Err, Ok, Result, Some, false}
use Rattle.std.specs.declared.alloc.AllocError.{AllocError}
use Rattle.attempt_steps.specs.Tasks.{HasPosted, TaskMarked}
use Rattle.shared_world.specs.declared.given.Given.{Given}
use Rattle.shared_world.specs.declared.given.Given.TheVariants as given
use Rattle.shared_world.specs.Shared.{Shared}
use Rattle.unit_table.specs.Board.{Board, unit_at}
use Rattle.unit_table.specs.declared.mark.Mark.TheVariants as mark
use Rattle.unit_table.specs.declared.mark.WaitOn.TheVariants as wait
use Rattle.unit_table.specs.declared.unit.Unit.{Unit}
use Rattle.unit_table.specs.Piece.{says_ready}
use Rattle.value_core.specs.Named.{Name}
use Rattle.world_steps.specs.Kept.{IsSameBut}

-- a unit that nothing can be done with now
pub record IsWaitingUnit (b : Board) (owner : Name) : Type 0 where
  pub unit : Unit
  pub there : unit_at b owner ≡ Some unit
  pub waits : says_ready unit.mark ≡ false

-- the task waits until that turn is definite and holds nothing; or for want of memory nothing changes
pub record HasWaited (old : Shared) (owner task : Name) (new : Shared) (found : Given) : Type 0 where
  pub found_is : found ≡ given.Waiting (wait.Definite owner)
  pub marked : TaskMarked old task (mark.Waiting (wait.Definite owner)) new

abbrev pub TurnWaitsOr : Shared → Name → Name → Shared → Result Given AllocError → Type 0
TurnWaitsOr old owner task new (Ok found) = HasWaited old owner task new found
TurnWaitsOr old owner task new (Err e) = IsSameBut old new

-- what the root has sent is put or kept, and the task waits so; or for want of memory nothing changes
pub record HasWaitedAtEnd (old : Shared) (owner task : Name) (before : ℕ) (new : Shared) (found : Given) : Type 0 where
  pub posted : Shared
  pub is_posted : HasPosted old owner before posted
  pub waited : HasWaited posted owner task new found

abbrev pub EndWaitsOr : Shared → Name → Name → ℕ → Shared → Result Given AllocError → Type 0
EndWaitsOr old owner task before new (Ok found) = HasWaitedAtEnd old owner task before new found
EndWaitsOr old owner task before new (Err e) = IsSameBut old new
