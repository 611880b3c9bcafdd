-- What was sent is gone, from the mail and from what is taken.
use Rattle.std.specs.Prelude.{◌≡◌, ◌⊎◌, ◌&&◌, [], Bool, List, Option, None, Some, cond}
use Rattle.actor_mailbox.specs.declared.message.Message.{Message}
use Rattle.actor_mailbox.specs.Messages.{without}
use Rattle.actor_mails.specs.Mails.{mail_at}
use Rattle.attempt_undoing.specs.Hanging.{Sent, depends_in, is_sent}
use Rattle.shared_world.specs.rows.Actors.{actor_mark, has_turn}
use Rattle.shared_world.specs.rows.Undoing.{actor_now, message_left}
use Rattle.shared_world.specs.Shared.{Shared}
use Rattle.unit_table.specs.Board.{Board, IsUnlent, lent_to, mark_at, piece_at}
use Rattle.unit_table.specs.declared.mark.Mark.{Mark}
use Rattle.unit_table.specs.declared.mark.Mark.TheVariants as mark
use Rattle.unit_table.specs.declared.mark.Work.TheVariants as work
use Rattle.unit_table.specs.declared.piece.Actor.{Actor}
use Rattle.unit_table.specs.declared.piece.Piece.{Piece}
use Rattle.unit_table.specs.declared.piece.Piece.TheVariants as piece
use Rattle.value_core.specs.declared.ticket.Ticket.{Ticket}
use Rattle.value_core.specs.Named.{Name, Named, named, same_name}

-- the mark of each actor is right
abbrev pub ActorsMarked : Shared → Type 0
ActorsMarked s = (a : Name) (x : Actor) → piece_at s.board a ≡ Some (piece.Actor x) → x.mark ≡ actor_mark (has_turn s.taken a x.state) (mail_at s.mails a)

-- the mark of an actor that rests, or can begin a turn
abbrev pub mark_resting : Bool → Mark
mark_resting rests = cond rests mark.Resting (mark.Ready work.Begin)

-- an actor with the mark that it has now; what else stands stays
abbrev pub marked_now : Shared → Name → Option Piece → Option Piece
marked_now s n (Some (piece.Actor x)) = Some (piece.Actor (actor_now s n x))
marked_now s n found = found

-- that is the mark of the actor under the name, where it is another one than it has; none where it is not, or where no actor stands
abbrev pub IsNewMark : Shared → Name → Option Piece → Option Mark → Type 0
IsNewMark s name (Some (piece.Actor x)) None = x.mark ≡ actor_mark (has_turn s.taken name x.state) (mail_at s.mails name)
IsNewMark s name (Some (piece.Actor x)) (Some m) = (m ≡ actor_mark (has_turn s.taken name x.state) (mail_at s.mails name)) × (x.mark ≡ m → ⊥)
IsNewMark s name found None = Unit {0}
IsNewMark s name found (Some m) = ⊥

-- nothing is marked; or what stands under the name has another mark, and no claim is on it
abbrev pub IsRemarked : Name → Board → Board → Type 0
IsRemarked name old new = (new ≡ old) ⊎ (IsUnlent name old new × (mark_at new name ≡ mark_at old name → ⊥))

-- what is taken is gone where it depends on that name
abbrev pub IsTakenLeft : Name → Name → Named Message → Named Message → Type 0
IsTakenLeft to on old new = (a : Name) → named a new ≡ cond (same_name a to && depends_in on (named to old)) None (named a old)

-- a claim that ends was on an actor that is left without mail
pub record IsEnded (old new : Shared) (ticket : Ticket) : Type 0 where
  pub name : Name
  pub was : lent_to old.board ticket ≡ Some name
  pub now : lent_to new.board ticket ≡ None
  pub actor : Actor
  pub there : piece_at new.board name ≡ Some (piece.Actor actor)
  pub mail : mail_at new.mails name ≡ []

-- what was sent is gone, the mark of each actor is right without it, and only claims on actors end that are left without mail
pub record SendsGone (sends : List Sent) (old new : Shared) : Type 0 where
  pub mails : (a : Name) → mail_at new.mails a ≡ without (is_sent sends a) (mail_at old.mails a)
  pub taken : (a : Name) → named a new.taken ≡ message_left (is_sent sends a) (named a old.taken)
  pub pieces : (n : Name) → piece_at new.board n ≡ marked_now new n (piece_at old.board n)
  pub claims : (ticket : Ticket) → (lent_to new.board ticket ≡ lent_to old.board ticket) ⊎ (IsEnded old new ticket)
