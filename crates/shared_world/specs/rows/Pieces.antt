-- What becomes of pieces and claims.
use Rattle.std.specs.Prelude.{◌≡◌, ◌||◌, ◌&&◌, ◌++◌, ◌∷◌, [], Bool, true, false, Option, None, Some, cond, is_some, not}
use Rattle.serial_model.specs.declared.end.End.{End}
use Rattle.serial_model.specs.declared.entry.Entry.{Entry}
use Rattle.serial_model.specs.declared.entry.Entry.TheVariants.{Run}
use Rattle.serial_model.specs.State.{Setup, UnitState}
use Rattle.shared_world.specs.declared.given.Given.{Given}
use Rattle.shared_world.specs.declared.given.Given.TheVariants as given
use Rattle.shared_world.specs.Shared.{claimed, is_going, Shared, unit_state}
use Rattle.shared_world.specs.Stands.{IsMachine}
use Rattle.task_fork_join.specs.Attempt.{Attempt}
use Rattle.unit_table.specs.Board.{Board, SamePieces, marks_ready, piece_at}
use Rattle.unit_table.specs.declared.mark.Mark.{Mark}
use Rattle.unit_table.specs.declared.mark.Mark.TheVariants as mark
use Rattle.unit_table.specs.declared.mark.Work.TheVariants as work
use Rattle.unit_table.specs.declared.piece.Piece.{Piece}
use Rattle.unit_table.specs.declared.piece.Piece.TheVariants as piece
use Rattle.unit_table.specs.declared.unit.Unit.{Unit}
use Rattle.unit_table.specs.Piece.{beside}
use Rattle.value_core.specs.declared.ticket.Ticket.{Ticket}
use Rattle.value_core.specs.declared.value.Value.{Value}
use Rattle.value_core.specs.Named.{Name, named, same_name}

-- the claims on these names are out no more, and every other claim stays; at an end none is out
abbrev pub but_gone : (Name → Bool) → Option Name → Option Name
but_gone gone None = None
but_gone gone (Some name) = cond (gone name) None (Some name)

abbrev pub ClaimsEnd : (Name → Bool) → Shared → Shared → Type 0
ClaimsEnd gone old new = is_going new.end ≡ true → (ticket : Ticket) → claimed new ticket ≡ but_gone gone (claimed old ticket)

-- nothing can be done with what stands there, or nothing does
abbrev pub is_idle : Board → Name → Bool
is_idle b name = not (marks_ready (piece_at b name))

-- that stands under the name; where it is finished, what waited for that is ready to settle; every other piece stays
pub record IsSet (name : Name) (p : Piece) (m : Mark) (old new : Board) : Type 0 where
  pub here : piece_at new name ≡ Some p
  pub others : (other : Name) → (other ≡ name → ⊥) → piece_at new other ≡ beside name m (piece_at old other)

-- the mark of a unit that goes on, or is finished
abbrev pub mark_after : Option Value → Mark
mark_after None = mark.Ready work.Eval
mark_after (Some v) = mark.Finished v

-- the unit is there, with that mark, and else as it was
pub record IsUnitAt (setup : Setup) (x y : Unit) (after : UnitState) (m : Mark) : Type 0 where
  pub state : unit_state y ≡ after
  pub machine : IsMachine setup y.machine
  pub mark : y.mark ≡ m

-- Settled: the unit is there, its entry is appended, and all else is as in the base
pub record Settles (base : Shared) (u : Name) (x : Unit) (after : UnitState) (found : Given) (new : Shared) : Type 0 where
  pub found_is : found ≡ given.Settled (Run u)
  pub unit : Unit
  pub stands : IsUnitAt base.setup x unit after (mark_after after.finished)
  pub set : IsSet u (piece.Unit unit) (mark_after after.finished) base.board new.board
  pub others : new ≡ record base { history = base.history ++ Run u ∷ []; board = new.board }

-- Settled: the run ends so by that entry, and all else stays
pub record EndsBy (old : Shared) (entry : Entry) (end : End) (found : Given) (new : Shared) : Type 0 where
  pub found_is : found ≡ given.Settled entry
  pub pieces : SamePieces old.board new.board
  pub others : new ≡ record old { history = old.history ++ entry ∷ []; end = Some end; board = new.board }

-- by a step of that unit
abbrev pub Ends : Shared → Name → End → Given → Shared → Type 0
Ends old u = EndsBy old (Run u)

-- the unit stays where it is, with that mark
pub record IsMarkedUnit (setup : Setup) (u : Name) (x : Unit) (m : Mark) (old new : Board) : Type 0 where
  pub unit : Unit
  pub stands : IsUnitAt setup x unit (unit_state x) m
  pub set : IsSet u (piece.Unit unit) m old new

-- a task that is gone; what else stands stays
abbrev pub task_gone : Option Piece → Option Piece
task_gone (Some (piece.Task m)) = None
task_gone found = found

-- what stands under a name, once the tasks of the attempt are gone
abbrev pub without_tasks : Attempt → (Name → Option Piece) → Name → Option Piece
without_tasks tree pieces name = cond (is_some (named name tree.tasks)) (task_gone (pieces name)) (pieces name)

-- a task
abbrev pub is_task : Option Piece → Bool
is_task (Some (piece.Task m)) = true
is_task found = false

-- the piece, and the tasks of the attempt
abbrev pub piece_or_task : Board → Name → Attempt → Name → Bool
piece_or_task board u tree name = same_name name u || (is_some (named name tree.tasks) && is_task (piece_at board name))
