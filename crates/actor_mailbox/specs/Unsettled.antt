-- Messages that are not settled.
use Rattle.std.specs.Prelude.{Bool, List, filter, true}
use Rattle.actor_mailbox.specs.declared.message.Message.{Message}
use Rattle.actor_mailbox.specs.Messages.{from, passes}
use Rattle.value_core.specs.Named.{Name}

-- whether the message depends on a name
abbrev pub is_unsettled : Message → Bool
is_unsettled m = passes (λ on. true) m.depends

-- the messages of that sender that are not settled
abbrev pub unsettled_of : Name → List Message → List Message
unsettled_of sender ms = filter is_unsettled (from sender ms)
