-- How an actor begins its turn ahead of the history.
use Rattle.std.specs.Prelude.{◌≡◌, ◌∷◌, List, None, Some}
use Rattle.actor_mailbox.specs.declared.message.Message.{Message}
use Rattle.actor_mails.specs.Mails.{IsMailed, mail_at}
use Rattle.actor_turns.specs.declared.turns.Turning.{Turning}
use Rattle.actor_turns.specs.Turning.{turn_of}
use Rattle.shared_world.specs.declared.given.Given.{Given}
use Rattle.shared_world.specs.declared.given.Given.TheVariants as given
use Rattle.shared_world.specs.rows.Leading.{IsChanged, begun_by}
use Rattle.shared_world.specs.Shared.{Shared}
use Rattle.unit_table.specs.Board.{Board, HasPlace, IsPutAt, IsUnlent, piece_at}
use Rattle.unit_table.specs.declared.mark.Mark.TheVariants as mark
use Rattle.unit_table.specs.declared.piece.Actor.{Actor}
use Rattle.unit_table.specs.declared.piece.Piece.TheVariants as piece
use Rattle.value_core.specs.Named.{Name}
use Rattle.value_core.specs.Placed.{HasPlace as HasItemPlace}
use Rattle.world_steps.specs.declared.kept.Kept.{Kept}
use Rattle.world_steps.specs.Kept.{IsSameBut, shared_of}

-- there is room for the turn, under whose name nothing stands, and for the message that the actor takes
pub record HasRoomFor (a turn : Name) (k : Kept) : Type 0 where
  pub none : piece_at k.units turn ≡ None
  pub place : HasPlace k.units turn
  pub item_place : HasItemPlace a k.taken

-- the turn is noted as one that has just begun ahead of the history, and there is room for it
pub record HasNoted (old : Shared) (a turn : Name) (k : Kept) : Type 0 where
  pub same : IsSameBut old (record (shared_of k) { aheads = old.aheads })
  pub aheads : IsChanged turn (Some (begun_by a)) old.aheads (shared_of k).aheads
  pub room : HasRoomFor a turn k

-- the actor rests, its turn is there, and the first message of its mail is taken
pub record HasBegunAhead (old : Shared) (a : Name) (t : Turning) (new : Shared) (found : Given) : Type 0 where
  pub found_is : found ≡ given.Held
  pub board : Board
  pub rests : (actor : Actor) → piece_at old.board a ≡ Some (piece.Actor actor) → IsPutAt a (Some (piece.Actor (record actor { mark = mark.Resting }))) old.board board
  pub put : IsPutAt t.name (Some (piece.Unit (turn_of t.name t.actor t.machine))) board new.board
  pub unlent : IsUnlent a old.board new.board
  pub mailed : (m : Message) (rest : List Message) → mail_at old.mails a ≡ m ∷ rest → IsMailed a rest old.mails new.mails
  pub taken : (m : Message) (rest : List Message) → mail_at old.mails a ≡ m ∷ rest → IsChanged a (Some m) old.taken new.taken
  pub others : new ≡ record old { board = new.board; mails = new.mails; taken = new.taken }
