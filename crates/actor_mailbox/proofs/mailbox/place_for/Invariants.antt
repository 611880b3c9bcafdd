use Rattle.std.proofs.Common.{◌≤◌, length, drop}
use Rattle.actor_mailbox.specs.BySender.{AllAfter}
use Rattle.actor_mailbox.proofs.mailbox.place_for.Given as goal

-- those from the place on come after the sender
abbrev pub invariant-loop-place : goal.invariant-loop-place
invariant-loop-place l = record { within : l.place ≤ length l.sorted; leads : AllAfter l.sender (drop l.place l.sorted) }

abbrev pub decreases-loop-place : goal.decreases-loop-place
decreases-loop-place l = l.place
