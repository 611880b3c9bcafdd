-- What a result that is given back answers and changes.
use Rattle.std.specs.Prelude.{◌≡◌, ◌||◌, ◌&&◌, Bool, None, Some, is_some, not}
use Rattle.serial_model.specs.Step.{next_of}
use Rattle.shared_world.specs.declared.given.Given.{Given}
use Rattle.shared_world.specs.declared.given.Given.TheVariants as given
use Rattle.shared_world.specs.Returned.{IsLive, Returned}
use Rattle.shared_world.specs.rows.Leading.{GaveLead, GaveTentative}
use Rattle.shared_world.specs.rows.Pieces.{ClaimsEnd, is_idle}
use Rattle.shared_world.specs.rows.Tasks.{TaskGives}
use Rattle.shared_world.specs.rows.Turns.{GaveActor}
use Rattle.shared_world.specs.rows.Units.{UnitGives}
use Rattle.shared_world.specs.Shared.{claimed, Shared, unit_state}
use Rattle.task_fork_join.specs.Attempt.{Attempt, end_at, machine_of}
use Rattle.unit_table.specs.Board.{Board, SamePieces, piece_at, unit_at}
use Rattle.unit_table.specs.declared.mark.Mark.{Mark}
use Rattle.unit_table.specs.declared.piece.Piece.TheVariants as piece
use Rattle.unit_table.specs.declared.unit.Unit.{Unit}
use Rattle.value_core.specs.declared.ticket.Ticket.{Ticket}
use Rattle.value_core.specs.Named.{Name, named, same_name}

-- The claim of that ticket is out no more, and else all stays.
pub record IsUnclaimed (ticket : Ticket) (old new : Shared) : Type 0 where
  pub pieces : SamePieces old.board new.board
  pub here : claimed new ticket ≡ None
  pub others : (other : Ticket) → (other ≡ ticket → ⊥) → claimed new other ≡ claimed old other
  pub rest : new ≡ record old { board = new.board }

-- a unit that stands where the history left it
pub record GaveUnit (old : Shared) (name : Name) (found : Given) (new : Shared) : Type 0 where
  pub unit : Unit
  pub there : unit_at old.board name ≡ Some unit
  pub level : named name old.aheads ≡ None
  pub gives : UnitGives old name unit (next_of old.setup (unit_state unit)) found new
  pub claims : ClaimsEnd (λ q. same_name q name) old new

-- something stood under the name, and is gone
abbrev pub is_gone : Board → Board → Name → Bool
is_gone old new q = is_some (piece_at old q) && not (is_some (piece_at new q))

-- Which claims end: those on what is gone; and where an attempt is undone those on what nothing can be done with any more, which is an
-- actor that is left without mail too.
abbrev pub ended_by : Given → Board → Board → Name → Bool
ended_by (given.Aborted unit ref version) old new q = is_idle new q
ended_by (given.Settled entry) old new q = is_gone old new q
ended_by given.Held old new q = is_gone old new q
ended_by given.Local old new q = is_gone old new q
ended_by (given.Began snapshot) old new q = is_gone old new q
ended_by (given.Waiting on) old new q = is_gone old new q
ended_by given.Stale old new q = is_gone old new q

-- and that of the task
abbrev pub gone_with : Given → Board → Board → Name → Name → Bool
gone_with found old new task q = same_name q task || ended_by found old new q

-- a task of the attempt of a unit
pub record GaveTask (old : Shared) (name : Name) (found : Given) (new : Shared) : Type 0 where
  pub owner : Name
  pub unit : Unit
  pub tree : Attempt
  pub mark : Mark
  pub there : piece_at old.board name ≡ Some (piece.Task mark)
  pub of : named name old.owners ≡ Some owner
  pub unit_there : unit_at old.board owner ≡ Some unit
  pub attempt : named owner old.attempts ≡ Some tree
  pub gives : TaskGives old owner unit name tree (end_at tree) (machine_of tree name) found new
  pub claims : ClaimsEnd (gone_with found old.board new.board name) old new

-- What the world answers and is afterwards, for a result.
pub data Gave (old : Shared) (result : Returned) (found : Given) (new : Shared) : Type 0 where
  stale : ((name : Name) → IsLive old result name → ⊥) → found ≡ given.Stale → IsUnclaimed result.ticket old new → Gave old result found new
  unit : (name : Name) → IsLive old result name → GaveUnit old name found new → Gave old result found new
  task : (name : Name) → IsLive old result name → GaveTask old name found new → Gave old result found new
  actor : (name : Name) → IsLive old result name → GaveActor old name found new → Gave old result found new
  lead : (name : Name) → IsLive old result name → GaveLead old name result.work found new → Gave old result found new
  tentative : (name : Name) → IsLive old result name → GaveTentative old name found new → Gave old result found new
