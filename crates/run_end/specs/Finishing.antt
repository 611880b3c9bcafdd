-- How one thread ends a run.
use Rattle.std.specs.Prelude.{◌≡◌, None, Option, Some}
use Rattle.run_end.specs.InTurn.{GoesInTurn, IsLevel}
use Rattle.run_end.specs.Over.{IsOverWith}
use Rattle.serial_model.specs.declared.end.End.{End}
use Rattle.shared_world.specs.Few.{KeepsFew}
use Rattle.shared_world.specs.Marks.{HasMarks}
use Rattle.shared_world.specs.Shared.{Shared, claimed}
use Rattle.shared_world.specs.Stands.{Stands}
use Rattle.task_fork_join.specs.Attempt.{Attempt}
use Rattle.unit_table.specs.Board.{Board, ComesAfter, SamePieces, but_for, lent_to}
use Rattle.value_core.specs.declared.ticket.Ticket.{Ticket}
use Rattle.value_core.specs.Named.{Name, Named, named}

-- no claim is out
abbrev pub NoneOut : Shared → Type 0
NoneOut s = (ticket : Ticket) → claimed s ticket ≡ None

-- no unit has an attempt
abbrev pub NoneTried : Named Attempt → Type 0
NoneTried attempts = (u : Name) → named u attempts ≡ None

-- the run is over with that end; no attempt is there, no claim is out, and nothing runs ahead of the history
pub record IsFinished (s : Shared) (end : End) : Type 0 where
  pub over : IsOverWith s end
  pub attempts : NoneTried s.attempts
  pub claims : NoneOut s
  pub level : IsLevel s

-- What is kept stands, the marks are right where they were, few versions are kept of each ref where few were, the history goes on in turn
-- from where it was, and where no claim was out none is, and where nothing ran ahead of the history nothing does.
pub record GoesOn (old new : Shared) : Type 0 where
  pub stands : Stands new
  pub marks : HasMarks old → HasMarks new
  pub few : KeepsFew old → KeepsFew new
  pub turns : GoesInTurn old new
  pub claims : NoneOut old → NoneOut new
  pub level : IsLevel old → IsLevel new

-- the run is over with that end, or it goes on
abbrev pub IsOverOr : Shared → Option End → Type 0
IsOverOr s None = s.end ≡ None
IsOverOr s (Some end) = IsOverWith s end

-- the pieces stay, and where no claim was out none is
pub record AreEnding (old new : Board) : Type 0 where
  pub pieces : SamePieces old new
  pub claims : (ticket : Ticket) → lent_to old ticket ≡ None → lent_to new ticket ≡ None

-- the pieces stay, and the claim on that one has ended
pub record IsEnded (name : Name) (old new : Board) : Type 0 where
  pub pieces : SamePieces old new
  pub claims : (ticket : Ticket) → lent_to new ticket ≡ but_for name (lent_to old ticket)

-- only what comes after that name is lent
abbrev pub LentAfter : Option Name → Board → Type 0
LentAfter passed b = (ticket : Ticket) (name : Name) → lent_to b ticket ≡ Some name → ComesAfter passed name
