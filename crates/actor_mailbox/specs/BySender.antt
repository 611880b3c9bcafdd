-- Messages by sender: their senders rise, and those of one sender are in the order in which they arrived.
use Rattle.std.specs.Prelude.{◌≡◌, ⊤, ℕ, ◌≤◌, Bool, true, false, not, List, [], ◌∷◌, drop, length, take}
use Rattle.std.specs.Ordering.{is_gt}
use Rattle.actor_mailbox.specs.declared.message.Message.{Message}
use Rattle.actor_mailbox.specs.Messages.{from}
use Rattle.value_core.specs.Name.{after_cmp}
use Rattle.value_core.specs.Named.{Name}

-- whether the first of two senders is the second one, or comes before it in after-order
abbrev pub is_up_to : Name → Name → Bool
is_up_to sender next = not (is_gt (after_cmp sender next))

-- senders rise: each is the next one's, or comes before it in after-order
abbrev pub SendersRise : List Message → Type 0
SendersRise [] = ⊤
SendersRise (m ∷ []) = ⊤
SendersRise (m ∷ n ∷ rest) = (is_gt (after_cmp m.sender n.sender) ≡ false) × SendersRise (n ∷ rest)

-- the messages of each sender are as they were, in their order; and senders rise
pub record IsBySender (old new : List Message) : Type 0 where
  pub same : (sender : Name) → from sender new ≡ from sender old
  pub rises : SendersRise new
  pub length : length new ≡ length old

-- the senders of so many messages from the front rise
pub record AreSortedTo (count : ℕ) (ms : List Message) : Type 0 where
  pub within : count ≤ length ms
  pub rises : SendersRise (take count ms)

-- whether a message of that sender may stand before the messages
abbrev pub may_lead : Name → List Message → Bool
may_lead sender [] = true
may_lead sender (m ∷ ms) = is_up_to sender m.sender

-- whether it may stand behind them
abbrev pub may_follow : List Message → Name → Bool
may_follow [] sender = true
may_follow (m ∷ []) sender = is_up_to m.sender sender
may_follow (m ∷ n ∷ rest) sender = may_follow (n ∷ rest) sender

-- messages that all come after that sender in after-order
abbrev pub AllAfter : Name → List Message → Type 0
AllAfter sender [] = ⊤
AllAfter sender (m ∷ ms) = (is_gt (after_cmp m.sender sender) ≡ true) × AllAfter sender ms

-- the place of a message of that sender: behind those that may stand before it, and before those that come after it
pub record IsPlaceFor (sender : Name) (ms : List Message) (place : ℕ) : Type 0 where
  pub within : place ≤ length ms
  pub follows : may_follow (take place ms) sender ≡ true
  pub leads : AllAfter sender (drop place ms)
