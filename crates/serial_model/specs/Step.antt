-- What one entry does to a state, if it is enabled there.
use Rattle.std.specs.Prelude.{ℕ, suc, ◌==◌, true, false, List, [], ◌∷◌, ◌++◌, Option, None, Some, unwrap_or, if◌then◌else◌}
use Rattle.std.specs.List.{slice_get}
use Rattle.std.specs.Option.{option_and_then, option_map}
use Rattle.value_core.specs.Place.{Spot}
use Rattle.value_core.specs.declared.code.Code.{Code}
use Rattle.value_core.specs.declared.code.Code.TheVariants as code
use Rattle.value_core.specs.declared.value.Value.{Value}
use Rattle.value_core.specs.declared.value.Value.TheVariants as value
use Rattle.core_syntax.specs.declared.node_id.NodeId.{NodeId}
use Rattle.serial_model.specs.declared.actor_state.ActorState.{ActorState}
use Rattle.serial_model.specs.declared.answer.Answer.{Answer}
use Rattle.serial_model.specs.declared.answer.Answer.TheVariants as answer
use Rattle.serial_model.specs.declared.effect.Effect.{Effect}
use Rattle.serial_model.specs.declared.effect.What.{What}
use Rattle.serial_model.specs.declared.effect.What.TheVariants as what
use Rattle.serial_model.specs.declared.end.End.{End}
use Rattle.serial_model.specs.declared.end.End.TheVariants as end
use Rattle.serial_model.specs.declared.entry.Entry.{Entry}
use Rattle.serial_model.specs.declared.entry.Entry.TheVariants.{Run, Take}
use Rattle.serial_model.specs.declared.halt.Halt.{Halt}
use Rattle.serial_model.specs.declared.halt.Halt.TheVariants as halt
use Rattle.serial_model.specs.declared.request.Request.{Request}
use Rattle.serial_model.specs.declared.request.Request.TheVariants as request
use Rattle.serial_model.specs.Ahead.{answer_ahead}
use Rattle.serial_model.specs.Eval.{next}
use Rattle.serial_model.specs.Log.{Log}
use Rattle.value_core.specs.Named.{Name, named, with_named, over, made_by}
use Rattle.serial_model.specs.State.{Setup, Becoming, UnitState, State, Queues, new_unit}
use Rattle.serial_model.specs.Task as task
use Rattle.serial_model.specs.Task.{Around, transaction}

-- the state with this of one unit
abbrev pub with_unit : State → Name → UnitState → State
with_unit s name unit = record s { units = with_named s.units name unit }

-- the unit with one answer more
abbrev pub answered : UnitState → Value → UnitState
answered unit v = record unit { answers = unit.answers ++ answer.Value v ∷ [] }

-- the unit is answered with that value
abbrev pub gets : State → Name → UnitState → Value → State
gets s name unit v = with_unit s name (answered unit v)

-- the next thing that the unit makes, and the unit after that
abbrev pub next_made : Name → UnitState → Name
next_made name unit = made_by name unit.made

abbrev pub with_made : UnitState → UnitState
with_made unit = record unit { made = suc unit.made }

-- the run ends so
abbrev pub ended : State → End → State
ended s end = record s { end = Some end }

-- the request's form fails in that unit
abbrev pub fails : State → Name → Code → Spot → State
fails s name failed at = ended s (end.Fault failed at name)

-- one unit more, where the limit allows it; else nothing is made, and the run ends
abbrev pub if_allowed : Setup → State → (State → State) → State
if_allowed setup s make = if s.made == setup.limits.units then ended s end.UnitsSpent else make (record s { made = suc s.made })

abbrev pub queue_of : Queues → Name → Name → List (List Value)
queue_of queues actor sender = unwrap_or (option_and_then (named sender) (named actor queues)) []

abbrev pub with_queue : Queues → Name → Name → List (List Value) → Queues
with_queue queues actor sender messages = with_named queues actor (with_named (unwrap_or (named actor queues) []) sender messages)

-- the message behind the others of that sender
abbrev pub sent : State → Name → Name → List Value → State
sent s actor sender message = record s { queues = with_queue s.queues actor sender (queue_of s.queues actor sender ++ message ∷ []) }

abbrev pub idle : ℕ → List Value → ActorState
idle behaviour state = record { behaviour = behaviour; state = state; turns = 0; busy = false }

abbrev pub spawned : State → Name → ℕ → List Value → State
spawned s actor behaviour state = record s { actors = with_named s.actors actor (idle behaviour state) }

abbrev pub becoming : UnitState → ℕ → List Value → UnitState
becoming unit behaviour state = record unit { becomes = Some (record { behaviour = behaviour; state = state }) }

-- the value of a finished unit
abbrev pub value_of : State → Name → Option Value
value_of s name = option_and_then (λ unit. unit.finished) (named name s.units)

-- what the tasks of a unit's transaction are run with
abbrev pub around : Setup → State → UnitState → Around
around setup s unit = record {
  program = setup.program;
  fuel = setup.limits.fuel;
  actor = unit.actor;
  store = λ ref. named ref s.refs;
  finished = value_of s;
}

-- an effect of a transaction of that unit
abbrev pub takes_effect : Name → State → UnitState → What → State × UnitState
takes_effect name s unit (what.Bytes text) = (record s { bytes = s.bytes ++ text }, unit)
takes_effect name s unit (what.Send actor message) = (sent s actor name message, unit)
takes_effect name s unit (what.Spawn actor behaviour state) = (spawned s actor behaviour state, unit)
takes_effect name s unit (what.Become behaviour state) = (s, becoming unit behaviour state)

abbrev pub take_effects : Name → List Effect → State → UnitState → State × UnitState
take_effects name [] s unit = (s, unit)
take_effects name (effect ∷ effects) s unit =
    let next = takes_effect name s unit effect.what in take_effects name effects next.0 next.1

-- A commit: the written and new refs are set, and the effects are done in order. It is answered with the value.
abbrev pub commits : State → Name → UnitState → Log → Value → State
commits s name unit log v =
    let done = take_effects name log.effects (record s { refs = over log.writes s.refs }) unit in gets done.0 name (with_made done.1) v

-- a transaction is one step: it is committed, or its end is the run's, or it waits
abbrev pub after_transaction : State → Name → UnitState → Log → task.Outcome → Option State
after_transaction s name unit log (task.Value v) = Some (commits s name unit log v)
after_transaction s name unit log (task.Fault failed place) = Some (fails s name failed place)
after_transaction s name unit log task.Spent = Some (ended s (end.Spent name))
after_transaction s name unit log task.Blocked = None

abbrev pub transacts : Setup → State → Name → UnitState → Spot → NodeId → List Value → Option State
transacts setup s name unit at body values =
    let result = transaction (around setup s unit) (next_made name unit) at body values in after_transaction s name unit result.log result.outcome

-- a value that is there is the answer; where none is, nothing is enabled
abbrev pub gets_if_there : State → Name → UnitState → Option Value → Option State
gets_if_there s name unit None = None
gets_if_there s name unit (Some v) = Some (gets s name unit v)

-- the unit is given the answer; where that is a fault, the request's form fails
abbrev pub gives : State → Name → UnitState → Spot → Answer → State
gives s name unit at (answer.Value v) = gets s name unit v
gives s name unit at (answer.Fault failed) = fails s name failed at

-- what a request changes of the state besides its unit
abbrev pub changed_by : State → Name → UnitState → Request → State
changed_by s name unit (request.Print text) = record s { bytes = s.bytes ++ text }
changed_by s name unit (request.NewRef v) = record s { refs = with_named s.refs (next_made name unit) v }
changed_by s name unit (request.Fork body values) = with_unit s (next_made name unit) (new_unit None body values)
changed_by s name unit (request.Spawn behaviour state) = spawned s (next_made name unit) behaviour state
changed_by s name unit (request.Send actor message) = sent s actor name message
changed_by s name unit _ = s

-- what it changes of its unit, besides the answer
abbrev pub unit_after : UnitState → Request → UnitState
unit_after unit (request.NewRef v) = with_made unit
unit_after unit (request.Fork body values) = with_made unit
unit_after unit (request.Spawn behaviour state) = with_made unit
unit_after unit (request.Become behaviour state) = becoming unit behaviour state
unit_after unit _ = unit

-- the request is done, and the unit is given the answer that is known ahead
abbrev pub acts : State → Name → UnitState → Spot → Request → State
acts s name unit at asked = on (answer_ahead unit.actor (next_made name unit) asked)
  where
    on : Option Answer → State
    on None = s
    on (Some given) = gives (changed_by s name unit asked) name (unit_after unit asked) at given

-- what a unit's request does
abbrev pub does : Setup → State → Name → UnitState → Spot → Request → Option State
does setup s name unit at (request.Deref ref) = gets_if_there s name unit (named ref s.refs)
does setup s name unit at (request.RefSet ref v) = Some (fails s name code.NoTransaction at)
does setup s name unit at (request.Fork body values) = Some (if_allowed setup s (λ s. acts s name unit at (request.Fork body values)))
does setup s name unit at (request.Join future) = gets_if_there s name unit (value_of s future)
does setup s name unit at (request.Dosync body values) = transacts setup s name unit at body values
does setup s name unit at asked = Some (acts s name unit at asked)

-- an actor after its turn: idle, and what it becomes where that is said
abbrev pub after_turn : Option Becoming → ActorState → ActorState
after_turn None actor = record actor { busy = false }
after_turn (Some becoming) actor = record actor { busy = false; behaviour = becoming.behaviour; state = becoming.state }

abbrev pub released : Option Name → State → Option Becoming → State
released None s becomes = s
released (Some name) s becomes = free (named name s.actors)
  where
    free : Option ActorState → State
    free None = s
    free (Some actor) = record s { actors = with_named s.actors name (after_turn becomes actor) }

-- at its value a unit is finished, and the actor of a turn is idle
abbrev pub finishes : State → Name → UnitState → Value → State
finishes s name unit v = released unit.actor (with_unit s name (record unit { finished = Some v })) unit.becomes

-- The unit does its next effect, or is finished at its value. A fault and a spent budget end the run.
abbrev pub goes_on : Setup → State → Name → UnitState → Halt → Option State
goes_on setup s name unit (halt.Ask request at) = does setup s name unit at request
goes_on setup s name unit (halt.Value v) = Some (finishes s name unit v)
goes_on setup s name unit (halt.Fault failed at) = Some (fails s name failed at)
goes_on setup s name unit halt.Spent = Some (ended s (end.Spent name))

-- what a unit does next
abbrev pub next_of : Setup → UnitState → Halt
next_of setup unit = next setup.program unit.body unit.values false unit.answers setup.limits.fuel

abbrev pub if_unfinished : Option Value → Option State → Option State
if_unfinished None next = next
if_unfinished (Some v) next = None

abbrev pub unit_step : Setup → State → Name → UnitState → Option State
unit_step setup s name unit = if_unfinished unit.finished (goes_on setup s name unit (next_of setup unit))

-- a unit runs where it is and is not finished
abbrev pub run_step : Setup → State → Name → Option State
run_step setup s name = option_and_then (unit_step setup s name) (named name s.units)

-- the turn of a behaviour on a message, as a unit
abbrev pub turn_unit : Setup → Name → ActorState → List Value → Option UnitState
turn_unit setup name actor message = option_map (λ behaviour. new_unit (Some name) behaviour.body (actor.state ++ message)) (slice_get setup.program.behaviours actor.behaviour)

-- an idle actor begins a turn on a sender's first message, where the limit allows one unit more
abbrev pub begins_turn : Setup → State → Name → Name → ActorState → List (List Value) → Option State
begins_turn setup s name sender actor [] = None
begins_turn setup s name sender actor (message ∷ messages) =
    option_map (λ unit. if_allowed setup s (λ s. record (with_unit s (made_by name actor.turns) unit) {
      actors = with_named s.actors name (record actor { turns = suc actor.turns; busy = true });
      queues = with_queue s.queues name sender messages;
    })) (turn_unit setup name actor message)

abbrev pub take_step : Setup → State → Name → Name → ActorState → Option State
take_step setup s name sender actor = if actor.busy then None else begins_turn setup s name sender actor (queue_of s.queues name sender)

-- after an end nothing is enabled
abbrev pub unless_ended : Option End → Option State → Option State
unless_ended None next = next
unless_ended (Some end) next = None

unfoldable pub step : Setup → State → Entry → Option State
step setup s (Run name) = unless_ended s.end (run_step setup s name)
step setup s (Take actor sender) = unless_ended s.end (option_and_then (take_step setup s actor sender) (named actor s.actors))
