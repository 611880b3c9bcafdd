-- What a predicate on values says of answers, requests and halts.
use Rattle.std.specs.Prelude.{◌≡◌, ◌<◌, Bool, false, length, All}
use Rattle.value_core.specs.declared.value.Value.{Value}
use Rattle.value_core.specs.declared.value.Value.TheVariants as value
use Rattle.value_core.specs.Futures.{holds_future}
use Rattle.core_syntax.specs.Table.{Table}
use Rattle.serial_model.specs.declared.answer.Answer.{Answer}
use Rattle.serial_model.specs.declared.answer.Answer.TheVariants as answer
use Rattle.serial_model.specs.declared.halt.Halt.{Halt}
use Rattle.serial_model.specs.declared.halt.Halt.TheVariants as halt
use Rattle.serial_model.specs.declared.request.Request.{Request}
use Rattle.serial_model.specs.declared.request.Request.TheVariants as request
use Rattle.serial_model.specs.Operation.{some_future}

-- it holds of an answer's value
abbrev pub OfAnswer : (Value → Type 0) → Answer → Type 0
OfAnswer P (answer.Value v) = P v
OfAnswer P (answer.Fault code) = Unit {0}

-- it holds of all values of a request, the names that it speaks of as values
abbrev pub OfRequest : (Value → Type 0) → Request → Type 0
OfRequest P (request.Print text) = Unit {0}
OfRequest P (request.NewRef v) = P v
OfRequest P (request.Deref ref) = P (value.Ref ref)
OfRequest P (request.RefSet ref v) = P (value.Ref ref) × P v
OfRequest P (request.Fork body values) = All P values
OfRequest P (request.Join future) = P (value.Future future)
OfRequest P (request.Dosync body values) = All P values
OfRequest P (request.Spawn behaviour state) = All P state
OfRequest P (request.Send actor message) = P (value.Actor actor) × All P message
OfRequest P (request.Become behaviour state) = All P state
OfRequest P request.SelfActor = Unit {0}

abbrev pub OfHalt : (Value → Type 0) → Halt → Type 0
OfHalt P (halt.Ask asked at) = OfRequest P asked
OfHalt P (halt.Value v) = P v
OfHalt P (halt.Fault code at) = Unit {0}
OfHalt P halt.Spent = Unit {0}

-- no future goes out into a ref, an actor or a message
abbrev pub IsSealed : Request → Type 0
IsSealed (request.NewRef v) = holds_future v ≡ false
IsSealed (request.RefSet ref v) = holds_future v ≡ false
IsSealed (request.Spawn behaviour state) = some_future state ≡ false
IsSealed (request.Send actor message) = some_future message ≡ false
IsSealed (request.Become behaviour state) = some_future state ≡ false
IsSealed _ = Unit {0}

-- bodies and behaviours that are named are in the table; inside a transaction none is begun
abbrev pub IsThere : Table → Bool → Request → Type 0
IsThere table inside (request.Fork body values) = body.index < length table.nodes
IsThere table inside (request.Dosync body values) = (body.index < length table.nodes) × (inside ≡ false)
IsThere table inside (request.Spawn behaviour state) = behaviour < length table.behaviours
IsThere table inside (request.Become behaviour state) = behaviour < length table.behaviours
IsThere table inside _ = Unit {0}

-- a request that a task of a transaction makes: it is none for a transaction, since inside one none is begun
abbrev pub IsInner : Request → Type 0
IsInner (request.Dosync body values) = ⊥
IsInner _ = Unit {0}
