use Rattle.std.proofs.Common.{◌≡◌, length}
use Rattle.actor_mailbox.specs.BySender.{AreSortedTo}
use Rattle.actor_mailbox.specs.Messages.{from}
use Rattle.value_core.specs.Named.{Name}
use Rattle.actor_mailbox.proofs.mailbox.sort_behind.Given as goal

-- the messages before this one stand by sender, and those of each sender are as they were
abbrev pub invariant-loop-at : goal.invariant-loop-at
invariant-loop-at l =
    record {
      same : (sender : Name) → from sender l.messages ≡ from sender l.fn.messages;
      sorted : AreSortedTo l.at l.messages;
      length : length l.messages ≡ length l.fn.messages;
    }
