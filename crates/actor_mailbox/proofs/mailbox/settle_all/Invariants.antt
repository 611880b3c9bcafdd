use Rattle.std.proofs.Common.{◌≡◌, ◌++◌, take, drop}
use Rattle.value_core.specs.Named.{same_name}
use Rattle.actor_mailbox.specs.Messages.{settle}
use Rattle.actor_mailbox.proofs.mailbox.settle_all.Given as goal

-- with those from the index on settled, all are
abbrev pub invariant-loop-message : goal.invariant-loop-message
invariant-loop-message l = take l.message-index l.messages ++ settle (same_name l.name) (drop l.message-index l.messages) ≡ settle (same_name l.name) l.fn.messages
