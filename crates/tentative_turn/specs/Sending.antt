-- What a turn sends that runs ahead.
use Rattle.std.specs.Prelude.{Bool, List, [], ◌∷◌, None, Option, Some, false, filter, flat_map}
use Rattle.serial_model.specs.declared.request.Request.{Request}
use Rattle.serial_model.specs.declared.request.Request.TheVariants as request
use Rattle.tentative_turn.specs.declared.held_effect.HeldEffect.{HeldEffect}
use Rattle.tentative_turn.specs.declared.held_effect.HeldEffect.TheVariants as held
use Rattle.value_core.specs.Named.{Name, same_name}

-- the request sends something to that actor
abbrev pub is_send_to : Name → Request → Bool
is_send_to to (request.Send actor args) = same_name to actor
is_send_to to _ = false

-- a request is held that does
abbrev pub is_sent_to : Name → HeldEffect → Bool
is_sent_to to (held.Asked r answer) = is_send_to to r
is_sent_to to (held.Take entry) = false

-- those of the effects that do
abbrev pub sent_to : Name → List HeldEffect → List HeldEffect
sent_to to effects = filter (is_sent_to to) effects

-- the receiver of the request, where it sends something
abbrev pub receiver : Request → List Name
receiver (request.Send to args) = to ∷ []
receiver _ = []

-- the receivers of what the requests send, in order
abbrev pub request_receivers : List Request → List Name
request_receivers requests = flat_map receiver requests

-- so it is of what is held
abbrev pub held_receiver : HeldEffect → List Name
held_receiver (held.Asked r answer) = receiver r
held_receiver (held.Take entry) = []

abbrev pub held_receivers : List HeldEffect → List Name
held_receivers effects = flat_map held_receiver effects

-- a name, where there is one
abbrev pub listed : Option Name → List Name
listed None = []
listed (Some to) = to ∷ []
