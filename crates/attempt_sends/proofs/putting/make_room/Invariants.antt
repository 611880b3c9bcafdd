use Rattle.std.proofs.Common.{◌≡◌, length}
use Rattle.std.specs.Prelude.{take}
use Rattle.actor_mails.specs.Mails.{held}
use Rattle.attempt_sends.specs.Putting.{HaveRoom}
use Rattle.attempt_sends.proofs.putting.make_room.Given as goal

-- the mail stays, and there is room for the messages that were passed
abbrev pub invariant-loop-letter : goal.invariant-loop-letter
invariant-loop-letter l = record { mail : held l.mails ≡ held l.fn.mails; room : HaveRoom (length l.letters) (take l.letter-index l.letters) l.units l.mails }
