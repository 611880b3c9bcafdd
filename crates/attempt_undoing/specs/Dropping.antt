-- Turns that are gone, with their attempts.
use Rattle.std.specs.Prelude.{◌≡◌, Bool, List, Option, None, Some, cond, false, is_some}
use Rattle.std.specs.List.{list_any}
use Rattle.shared_world.specs.Gave.{is_gone}
use Rattle.shared_world.specs.rows.Pieces.{but_gone}
use Rattle.task_fork_join.specs.Attempt.{Attempt}
use Rattle.unit_table.specs.Board.{Board, lent_to, piece_at}
use Rattle.unit_table.specs.declared.piece.Piece.{Piece}
use Rattle.unit_table.specs.declared.piece.Piece.TheVariants as piece
use Rattle.value_core.specs.declared.ticket.Ticket.{Ticket}
use Rattle.value_core.specs.Named.{Name, Named, named}

-- the claims on what is gone end, and no other
abbrev pub GoneEnds : Board → Board → Type 0
GoneEnds old new = (ticket : Ticket) → lent_to new ticket ≡ but_gone (is_gone old new) (lent_to old ticket)

-- a unit that is gone; what else stands stays
abbrev pub unit_gone : Option Piece → Option Piece
unit_gone (Some (piece.Unit x)) = None
unit_gone found = found

-- the unit of that name is gone, where it is one, and the claim on it
pub record IsUnitGone (name : Name) (old new : Board) : Type 0 where
  pub here : piece_at new name ≡ unit_gone (piece_at old name)
  pub others : (other : Name) → (other ≡ name → ⊥) → piece_at new other ≡ piece_at old other
  pub claims : GoneEnds old new

-- whether the attempt has a task of that name
abbrev pub has_task : Name → Option Attempt → Bool
has_task n None = false
has_task n (Some tree) = is_some (named n tree.tasks)

-- or one of those of these units
abbrev pub is_task_in : Named Attempt → Name → List Name → Bool
is_task_in attempts n units = list_any (λ v. has_task n (named v attempts)) units

-- a task that is gone where it is so; what else stands stays
abbrev pub task_gone_where : Bool → Option Piece → Option Piece
task_gone_where gone (Some (piece.Task m)) = cond gone None (Some (piece.Task m))
task_gone_where gone found = found
