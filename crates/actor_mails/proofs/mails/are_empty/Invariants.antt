use Rattle.std.proofs.Common.{◌≡◌}
use Rattle.std.specs.BTreeMap.{values}
use Rattle.actor_mails.proofs.Waiting.{none_wait}
use Rattle.actor_mails.proofs.mails.are_empty.Given as goal

-- no box that was passed has a message
abbrev pub invariant-loop-mailbox : goal.invariant-loop-mailbox
invariant-loop-mailbox l = none_wait l.mailbox-iterator ≡ none_wait (values l.boxes)
