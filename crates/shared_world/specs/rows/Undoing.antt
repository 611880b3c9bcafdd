-- How an attempt is undone with all that hangs on it.
use Rattle.std.specs.Prelude.{◌≡◌, ℕ, Bool, Option, None, Some, cond, false}
use Rattle.actor_mailbox.specs.declared.message.Message.{Message}
use Rattle.actor_mailbox.specs.Messages.{depends_on, without}
use Rattle.actor_mails.specs.Mails.{mail_at}
use Rattle.shared_world.specs.declared.given.Given.{Given}
use Rattle.shared_world.specs.declared.given.Given.TheVariants as given
use Rattle.shared_world.specs.Dependence.{AreGone}
use Rattle.shared_world.specs.rows.Actors.{actor_mark, has_turn}
use Rattle.shared_world.specs.rows.Attempts.{ArePrunedFor}
use Rattle.shared_world.specs.rows.Pieces.{ClaimsEnd, IsUnitAt, is_idle}
use Rattle.shared_world.specs.Shared.{Shared, tree_with, unit_state}
use Rattle.task_fork_join.specs.Attempt.{Attempt}
use Rattle.unit_table.specs.Board.{piece_at}
use Rattle.unit_table.specs.declared.mark.Mark.TheVariants as mark
use Rattle.unit_table.specs.declared.mark.Work.TheVariants as work
use Rattle.unit_table.specs.declared.piece.Actor.{Actor}
use Rattle.unit_table.specs.declared.piece.Piece.{Piece}
use Rattle.unit_table.specs.declared.piece.Piece.TheVariants as piece
use Rattle.unit_table.specs.declared.unit.Unit.{Unit}
use Rattle.value_core.specs.Named.{Name, named}

-- whether the root of that attempt is gone
abbrev pub root_gone : (Name → Bool) → Option Attempt → Bool
root_gone gone None = false
root_gone gone (Some tree) = gone tree.root

-- an attempt whose root has not gone
abbrev pub tree_left : (Name → Bool) → Option Attempt → Option Attempt
tree_left gone found = cond (root_gone gone found) None found

-- whether a message depends on what is gone
abbrev pub message_gone : (Name → Bool) → Option Message → Bool
message_gone gone None = false
message_gone gone (Some m) = depends_on gone m

-- a message that depends on nothing that is gone
abbrev pub message_left : (Name → Bool) → Option Message → Option Message
message_left gone found = cond (message_gone gone found) None found

-- an actor with the mark that it has by what is taken of it now, and by its mail
abbrev pub actor_now : Shared → Name → Actor → Actor
actor_now s a x = record x { mark = actor_mark (has_turn s.taken a x.state) (mail_at s.mails a) }

-- What is left of what stood under a name: a unit that is not gone, a task of an attempt that is not, and each actor.
abbrev pub piece_left : Shared → (Name → Bool) → Shared → Name → Option Piece → Option Piece
piece_left old gone new n None = None
piece_left old gone new n (Some (piece.Unit x)) = cond (gone n) None (Some (piece.Unit x))
piece_left old gone new n (Some (piece.Task m)) = cond (root_gone gone (tree_with old n)) None (Some (piece.Task m))
piece_left old gone new n (Some (piece.Actor x)) = Some (piece.Actor (actor_now new n x))

-- The unit stays where it is and is ready to settle; of the other pieces those are left that hang on nothing which is gone.
pub record PiecesLeft (old : Shared) (u : Name) (x : Unit) (gone : Name → Bool) (new : Shared) : Type 0 where
  pub unit : Unit
  pub stands : IsUnitAt old.setup x unit (unit_state x) (mark.Ready work.Settle)
  pub here : piece_at new.board u ≡ Some (piece.Unit unit)
  pub others : (n : Name) → (n ≡ u → ⊥) → piece_at new.board n ≡ piece_left old gone new n (piece_at old.board n)

-- The attempt is undone: what hangs on it is gone, with the messages that depend on that, and with the tasks of each attempt that is
-- gone; its unit can begin a new one; and all else stays.
pub record Undoes (old : Shared) (u : Name) (x : Unit) (tree : Attempt) (new : Shared) : Type 0 where
  pub gone : Name → Bool
  pub are : AreGone old tree.root gone
  pub pieces : PiecesLeft old u x gone new
  pub attempts : (v : Name) → named v new.attempts ≡ tree_left gone (named v old.attempts)
  pub aheads : (v : Name) → named v new.aheads ≡ cond (gone v) None (named v old.aheads)
  pub taken : (a : Name) → named a new.taken ≡ message_left gone (named a old.taken)
  pub mails : (a : Name) → mail_at new.mails a ≡ without gone (mail_at old.mails a)
  pub versions : ArePrunedFor new.attempts old.versions new.versions
  pub others : new ≡ record old {
    versions = new.versions;
    board = new.board;
    mails = new.mails;
    taken = new.taken;
    aheads = new.aheads;
    attempts = new.attempts;
  }

-- The claims end on what nothing can be done with any more: on what is gone, and on an actor that is left without mail.
abbrev pub IdleEnd : Shared → Shared → Type 0
IdleEnd old new = ClaimsEnd (is_idle new.board) old new

-- Aborted: the attempt is undone, since that ref has that version.
pub record Aborts (old : Shared) (u : Name) (x : Unit) (tree : Attempt) (ref : Name) (version : ℕ) (found : Given) (new : Shared) : Type 0 where
  pub found_is : found ≡ given.Aborted u ref version
  pub undoes : Undoes old u x tree new
