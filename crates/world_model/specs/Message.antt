-- What a unit sends, before it is settled and after.
use Rattle.std.specs.Prelude.{Bool, List, None, Some, [], cond, filter, true, ◌∷◌}
use Rattle.value_core.specs.Named.{Name}
use Rattle.value_core.specs.declared.value.Value.{Value}
use Rattle.actor_mailbox.specs.Messages.{definite, from, passes}
use Rattle.actor_mailbox.specs.declared.message.Message.{Message}

-- a settled message, and one that depends on that name
abbrev pub settled : Name → List Value → Message
settled sender args = record { sender = sender; args = args; depends = None }

abbrev pub tentative : Name → Name → List Value → Message
tentative sender on args = record { sender = sender; args = args; depends = Some on }

-- the first message whose name passes becomes definite; where there is none, this message comes last
abbrev pub settle_or_put : (Name → Bool) → Message → List Message → List Message
settle_or_put test last [] = last ∷ []
settle_or_put test last (m ∷ ms) = cond (passes test m.depends) (definite m ∷ ms) (m ∷ settle_or_put test last ms)

-- whether the message depends on a name
abbrev pub is_tentative : Message → Bool
is_tentative m = passes (λ on. true) m.depends

-- the messages of that sender that are not settled
abbrev pub unsettled : Name → List Message → List Message
unsettled sender ms = filter is_tentative (from sender ms)
