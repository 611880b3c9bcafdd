-- What is sent to an actor, by requests and by the effects of a transaction.
use Rattle.std.specs.Prelude.{List, [], ◌∷◌, cond, flat_map}
use Rattle.value_core.specs.Named.{Name, same_name}
use Rattle.value_core.specs.declared.value.Value.{Value}
use Rattle.serial_model.specs.declared.effect.Effect.{Effect}
use Rattle.serial_model.specs.declared.effect.What.{What}
use Rattle.serial_model.specs.declared.effect.What.TheVariants as what
use Rattle.serial_model.specs.declared.request.Request.{Request}
use Rattle.serial_model.specs.declared.request.Request.TheVariants as request

-- the message, where it is for that actor
abbrev pub if_to : Name → Name → List Value → List (List Value)
if_to actor to args = cond (same_name actor to) (args ∷ []) []

-- what a request sends to the actor
abbrev pub request_sends : Name → Request → List (List Value)
request_sends actor (request.Send to args) = if_to actor to args
request_sends actor _ = []

-- what the requests send to the actor, in order
abbrev pub sends_to : Name → List Request → List (List Value)
sends_to actor requests = flat_map (request_sends actor) requests

-- what an effect sends to the actor
abbrev pub what_sends : Name → What → List (List Value)
what_sends actor (what.Send to args) = if_to actor to args
what_sends actor _ = []

-- what the effects send to the actor, in order
abbrev pub effects_to : Name → List Effect → List (List Value)
effects_to actor effects = flat_map (λ e. what_sends actor e.what) effects
