-- Messages in the order in which they arrived.
use Rattle.std.specs.Prelude.{Bool, false, if◌then◌else◌, not, List, [], ◌∷◌, map, filter, Option, None, Some}
use Rattle.value_core.specs.Named.{Name, same_name}
use Rattle.actor_mailbox.specs.declared.message.Message.{Message}

-- whether that sender sent the message
abbrev pub is_from : Name → Message → Bool
is_from sender m = same_name sender m.sender

-- the messages of that sender
abbrev pub from : Name → List Message → List Message
from sender ms = filter (is_from sender) ms

-- the messages but for the first that passes the test
abbrev pub without_first : (Message → Bool) → List Message → List Message
without_first test [] = []
without_first test (m ∷ ms) = if test m then ms else m ∷ without_first test ms

-- whether a name that passes the test is what is depended on
abbrev pub passes : (Name → Bool) → Option Name → Bool
passes test None = false
passes test (Some on) = test on

-- whether the message depends on a name that passes
abbrev pub depends_on : (Name → Bool) → Message → Bool
depends_on test m = passes test m.depends

-- the message, depending on nothing
abbrev pub definite : Message → Message
definite m = record m { depends = None }

-- the message is definite where the name that it depends on passes
abbrev pub settle_one : (Name → Bool) → Message → Message
settle_one test m = if depends_on test m then definite m else m

-- all messages that depend on a name that passes are definite, in their places
abbrev pub settle : (Name → Bool) → List Message → List Message
settle test ms = map (settle_one test) ms

-- the first of them is definite, in its place
abbrev pub settle_first : (Name → Bool) → List Message → List Message
settle_first test [] = []
settle_first test (m ∷ ms) = if depends_on test m then definite m ∷ ms else m ∷ settle_first test ms

-- whether the message depends on no name that passes
abbrev pub stays : (Name → Bool) → Message → Bool
stays test m = not (depends_on test m)

-- the messages that depend on no name that passes
abbrev pub without : (Name → Bool) → List Message → List Message
without test ms = filter (stays test) ms
