-- Attempts whose root is at its end.
use Rattle.std.specs.Prelude.{◌≡◌, List, Err, None, Ok, Option, Result, Some, All}
use Rattle.std.specs.declared.alloc.AllocError.{AllocError}
use Rattle.attempt_deciding.specs.Ending.{FoundEnd}
use Rattle.attempt_deciding.specs.TaskAt.{IsTaskAt}
use Rattle.world_steps.specs.Kept.{IsSameBut}
use Rattle.ref_store.specs.declared.version.Version.{Version}
use Rattle.shared_world.specs.declared.given.Given.{Given}
use Rattle.shared_world.specs.rows.Tasks.{EndGives, RootGives}
use Rattle.shared_world.specs.Shared.{Shared}
use Rattle.task_fork_join.specs.Attempt.{Attempt, end_at}
use Rattle.task_fork_join.specs.declared.task_end.TaskEnd.{TaskEnd}
use Rattle.txn_commit.specs.Conflict.{IsFirstConflict, IsUnchanged}
use Rattle.txn_commit.specs.declared.conflict.Conflict.{Conflict}
use Rattle.unit_table.specs.Board.{unit_at}
use Rattle.unit_table.specs.declared.unit.Unit.{Unit}
use Rattle.value_core.specs.Named.{Name, Named, named}

-- what comes of an attempt whose root is at its end, whichever task of it told so; or for want of memory nothing changes
pub record HasDecided (old : Shared) (owner : Name) (new : Shared) (found : Given) : Type 0 where
  pub row : (task : Name) (x : Unit) (tree : Attempt) (ended : TaskEnd) → unit_at old.board owner ≡ Some x → named owner old.attempts ≡ Some tree → end_at tree ≡ Some ended → RootGives old owner x task tree ended found new
  pub claims : FoundEnd found old new

abbrev pub DecidedOr : Shared → Name → Shared → Result Given AllocError → Type 0
DecidedOr old owner new (Ok found) = HasDecided old owner new found
DecidedOr old owner new (Err e) = IsSameBut old new

-- the first ref that was read and has a version above the snapshot; or there is none
abbrev pub IsValidated : Named (List Version) → Attempt → Option Conflict → Type 0
IsValidated versions tree None = All (IsUnchanged versions tree.snapshot) tree.reads
IsValidated versions tree (Some conflict) = IsFirstConflict tree.reads versions tree.snapshot conflict

-- the unit has an attempt whose root is at its end
pub record IsEndedAt (attempts : Named Attempt) (owner : Name) : Type 0 where
  pub tree : Attempt
  pub attempt : named owner attempts ≡ Some tree
  pub ended : TaskEnd
  pub at_end : end_at tree ≡ Some ended

-- that is a task, and the root of the unit's attempt is at its end, which stands where the history left it
pub record IsToDecide (s : Shared) (task owner : Name) : Type 0 where
  pub task_at : IsTaskAt s.board task
  pub ended_at : IsEndedAt s.attempts owner
  pub level : named owner s.aheads ≡ None

-- what a valid attempt comes to; or for want of memory nothing changes
pub record HasSettled (old : Shared) (owner : Name) (new : Shared) (found : Given) : Type 0 where
  pub row : (x : Unit) (tree : Attempt) (ended : TaskEnd) → unit_at old.board owner ≡ Some x → named owner old.attempts ≡ Some tree → end_at tree ≡ Some ended → EndGives old owner x tree ended found new
  pub claims : FoundEnd found old new

abbrev pub SettledOr : Shared → Name → Shared → Result Given AllocError → Type 0
SettledOr old owner new (Ok found) = HasSettled old owner new found
SettledOr old owner new (Err e) = IsSameBut old new
