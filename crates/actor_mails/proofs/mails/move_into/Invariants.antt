use Rattle.std.proofs.Common.{◌≡◌, ◌++◌, ◌+◌, ◌≤◌, length}
use Rattle.actor_mails.proofs.mails.move_into.Given as goal

-- what was moved and what is left are all, and there is room for what is left
abbrev pub invariant-loop-message : goal.invariant-loop-message
invariant-loop-message l = record {
  items : l.mailbox.items ++ l.more.items ≡ l.initial.mailbox.items ++ l.initial.more.items;
  fits : length l.more.items ≤ l.mailbox.room;
  room : l.initial.mailbox.room + length l.more.items ≤ l.mailbox.room + length l.initial.more.items;
}

abbrev pub decreases-loop-message : goal.decreases-loop-message
decreases-loop-message l = length l.more.items
