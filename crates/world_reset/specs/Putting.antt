-- Pieces that are put back.
use Rattle.std.specs.Prelude.{◌≡◌, ◌∷◌, List, None, Option, Some, if◌then◌else◌, not, true}
use Rattle.actor_mailbox.specs.declared.message.Message.{Message}
use Rattle.actor_mailbox.specs.Messages.{without}
use Rattle.actor_mails.specs.Mails.{IsMailed, KeepsRoomBut, Mail, held, mail_at}
use Rattle.shared_world.specs.rows.Resetting.{mail_back}
use Rattle.unit_table.specs.Board.{Board, IsPutAt, lent_to, piece_at}
use Rattle.value_core.specs.declared.ticket.Ticket.{Ticket}
use Rattle.value_core.specs.Named.{Name, named}
use Rattle.value_core.specs.Placed.{filled}
use Rattle.world_model.specs.Message.{is_tentative}
use Rattle.world_reset.specs.Back.{put_back}
use Rattle.world_reset.specs.declared.back.Back.{Back}
use Rattle.world_steps.specs.declared.kept.Kept.{Kept}

-- all messages that wait are settled
abbrev pub AreSettled : Mail → Type 0
AreSettled mails = (a : Name) → without (λ on. true) (mail_at mails a) ≡ mail_at mails a

-- what was not lent is not
abbrev pub NoneMoreOut : Board → Board → Type 0
NoneMoreOut old new = (claim : Ticket) → lent_to old claim ≡ None → lent_to new claim ≡ None

-- the mail with the message before it, where that is settled
abbrev pub is_there : Message → List Message → List Message
is_there m mail = if not (is_tentative m) then m ∷ mail else mail

-- the mail with what was taken before it, where that is settled
abbrev pub back_with : Option Message → List Message → List Message
back_with None mail = mail
back_with (Some m) mail = is_there m mail

-- the piece under the name became that, and what its actor took is the first of its mail, where it is settled
pub record HasPutBack (name : Name) (b : Back) (old new : Kept) : Type 0 where
  pub mail : IsMailed name (back_with (named name (filled old.taken)) (mail_at (held old.mails) name)) (held old.mails) (held new.mails)
  pub taken : (other : Name) → (other ≡ name → ⊥) → named other (filled new.taken) ≡ named other (filled old.taken)
  pub room : KeepsRoomBut name old.mails new.mails
  pub piece : IsPutAt name (put_back b (back_with (named name (filled old.taken)) (mail_at (held old.mails) name)) (piece_at old.units name)) old.units new.units
  pub claims : NoneMoreOut old.units new.units
