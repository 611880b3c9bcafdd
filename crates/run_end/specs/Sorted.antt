-- The mail of an actor, sorted by sender.
use Rattle.std.specs.Prelude.{◌≡◌}
use Rattle.actor_mailbox.specs.BySender.{IsBySender}
use Rattle.actor_mails.specs.Mails.{SameMailBut, mail_at}
use Rattle.shared_world.specs.Shared.{Shared}
use Rattle.value_core.specs.Named.{Name}

-- the mail of that actor is sorted by sender, and all else stays
pub record IsSorted (actor : Name) (old new : Shared) : Type 0 where
  pub mail : IsBySender (mail_at old.mails actor) (mail_at new.mails actor)
  pub others : SameMailBut actor old.mails new.mails
  pub rest : new ≡ record old { mails = new.mails }
