-- Why nothing can be done with a piece now.
use Rattle.std.specs.Prelude.{◌≡◌, [], None, Some, true}
use Rattle.actor_mails.specs.Mails.{mail_at}
use Rattle.shared_world.specs.Marks.{IsTaskPiece, IsTentative, TaskWaits, TurnWaits, UnitWaits}
use Rattle.shared_world.specs.rows.Actors.{has_turn}
use Rattle.shared_world.specs.Shared.{Shared}
use Rattle.task_fork_join.specs.Attempt.{end_at}
use Rattle.unit_table.specs.Board.{lent_at}
use Rattle.unit_table.specs.declared.piece.Actor.{Actor}
use Rattle.unit_table.specs.declared.mark.Mark.{Mark}
use Rattle.unit_table.specs.declared.mark.Mark.TheVariants as mark
use Rattle.unit_table.specs.declared.mark.WaitOn.TheVariants as wait
use Rattle.unit_table.specs.declared.piece.Piece.{Piece}
use Rattle.unit_table.specs.declared.piece.Piece.TheVariants as piece
use Rattle.unit_table.specs.declared.unit.Unit.{Unit}
use Rattle.unit_table.specs.Piece.{mark_in}
use Rattle.value_core.specs.declared.ticket.Ticket.{Ticket}
use Rattle.value_core.specs.declared.value.Value.{Value}
use Rattle.value_core.specs.Named.{Name}

-- a claim on it is out; or it is finished; or it is a unit or a task that waits for what is still to come; or a turn that is not
-- definite yet; or a task that waits for its turn, which runs ahead; or a task of an attempt whose root is at its end; or an actor that
-- has a turn, or no mail
pub data IsHeldUp (s : Shared) (name : Name) (p : Piece) : Type 0 where
  lent : (claim : Ticket) → lent_at s.board name ≡ Some claim → IsHeldUp s name p
  finished : (v : Value) → mark_in p ≡ mark.Finished v → IsHeldUp s name p
  unit : (x : Unit) (f : Name) → p ≡ piece.Unit x → UnitWaits s name x f → IsHeldUp s name p
  tentative : (x : Unit) → p ≡ piece.Unit x → IsTentative s name → IsHeldUp s name p
  task : (f : Name) (is : IsTaskPiece s name (mark.Waiting (wait.Finish f))) → p ≡ piece.Task (mark.Waiting (wait.Finish f)) → TaskWaits s is.tree.tasks is.task f → IsHeldUp s name p
  hangs : (turn : Name) (is : IsTaskPiece s name (mark.Waiting (wait.Definite turn))) → p ≡ piece.Task (mark.Waiting (wait.Definite turn)) → TurnWaits s is.owner is.task turn → IsHeldUp s name p
  over : (m : Mark) (is : IsTaskPiece s name m) → p ≡ piece.Task m → (end_at is.tree ≡ None → ⊥) → IsHeldUp s name p
  busy : (a : Actor) → p ≡ piece.Actor a → has_turn s.taken name a.state ≡ true → IsHeldUp s name p
  no_mail : (a : Actor) → p ≡ piece.Actor a → mail_at s.mails name ≡ [] → IsHeldUp s name p
