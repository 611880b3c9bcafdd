-- Attempts that are undone.
use Rattle.std.specs.Prelude.{◌≡◌, ℕ, List, None, Option, Some}
use Rattle.std.specs.List.{slice_get}
use Rattle.attempt_deciding.specs.Ending.{FoundEnd}
use Rattle.shared_world.specs.declared.given.Given.{Given}
use Rattle.shared_world.specs.declared.given.Given.TheVariants as given
use Rattle.shared_world.specs.rows.Undoing.{Aborts}
use Rattle.shared_world.specs.Shared.{Shared}
use Rattle.task_fork_join.specs.Attempt.{Attempt, end_at}
use Rattle.task_fork_join.specs.declared.task_end.TaskEnd.{TaskEnd}
use Rattle.txn_commit.specs.Conflict.{IsFirstConflict}
use Rattle.txn_commit.specs.declared.conflict.Conflict.{Conflict}
use Rattle.unit_table.specs.Board.{lent_to, piece_at, unit_at}
use Rattle.unit_table.specs.declared.mark.Mark.{Mark}
use Rattle.unit_table.specs.declared.piece.Piece.TheVariants as piece
use Rattle.unit_table.specs.declared.unit.Unit.{Unit}
use Rattle.value_core.specs.declared.ticket.Ticket.{Ticket}
use Rattle.value_core.specs.Named.{Name, named}

-- the attempt is undone with all that hangs on it
pub record HasAborted (old : Shared) (owner ref : Name) (version : ℕ) (new : Shared) (found : Given) : Type 0 where
  pub row : (x : Unit) (tree : Attempt) → unit_at old.board owner ≡ Some x → named owner old.attempts ≡ Some tree → Aborts old owner x tree ref version found new
  pub claims : FoundEnd found old new

-- it is, for the ref in the conflict's place among those that it has read
pub record AbortsFor (old : Shared) (u : Name) (x : Unit) (tree : Attempt) (conflict : Conflict) (found : Given) (new : Shared) : Type 0 where
  pub ref : Name
  pub ref_is : slice_get tree.reads conflict.index ≡ Some ref
  pub aborts : Aborts old u x tree ref conflict.version found new

pub record HasConflicted (old : Shared) (owner : Name) (conflict : Conflict) (new : Shared) (found : Given) : Type 0 where
  pub row : (x : Unit) (tree : Attempt) → unit_at old.board owner ≡ Some x → named owner old.attempts ≡ Some tree → AbortsFor old owner x tree conflict found new
  pub claims : FoundEnd found old new

-- that is told, of the ref in that place among these
pub record IsAborted (unit : Name) (reads : List Name) (conflict : Conflict) (found : Given) : Type 0 where
  pub ref : Name
  pub ref_is : slice_get reads conflict.index ≡ Some ref
  pub found_is : found ≡ given.Aborted unit ref conflict.version

-- The root of the task's attempt is at its end, its unit stands where the history left it, and that is the first ref that it has read and that
-- has a version above its snapshot: it is to be undone.
pub record IsToUndo (s : Shared) (task : Name) (conflict : Conflict) : Type 0 where
  pub mark : Mark
  pub there : piece_at s.board task ≡ Some (piece.Task mark)
  pub owner : Name
  pub of : named task s.owners ≡ Some owner
  pub tree : Attempt
  pub attempt : named owner s.attempts ≡ Some tree
  pub ended : TaskEnd
  pub at_end : end_at tree ≡ Some ended
  pub level : named owner s.aheads ≡ None
  pub first : IsFirstConflict tree.reads s.versions tree.snapshot conflict

-- the conflict for which the attempt of the task is to be undone; or it is to be undone for none
abbrev pub FindsToUndo : Shared → Name → Option Conflict → Type 0
FindsToUndo s task (Some conflict) = IsToUndo s task conflict
FindsToUndo s task None = (conflict : Conflict) → IsToUndo s task conflict → ⊥

-- such a task is claimed under the ticket
pub record IsClaimToUndo (s : Shared) (claim : Ticket) (conflict : Conflict) : Type 0 where
  pub task : Name
  pub lent : lent_to s.board claim ≡ Some task
  pub to_undo : IsToUndo s task conflict
