-- The answers that a request is given whatever the refs are and wherever the other units stand.
use Rattle.std.specs.Prelude.{Option, None, Some}
use Rattle.value_core.specs.declared.code.Code.TheVariants as code
use Rattle.value_core.specs.declared.value.Value.TheVariants as value
use Rattle.serial_model.specs.declared.answer.Answer.{Answer}
use Rattle.serial_model.specs.declared.answer.Answer.TheVariants as answer
use Rattle.serial_model.specs.declared.request.Request.{Request}
use Rattle.serial_model.specs.declared.request.Request.TheVariants as request
use Rattle.value_core.specs.Named.{Name}

-- become and self are for turns alone
abbrev pub of_turn : Option Name → Answer → Answer
of_turn None given = answer.Fault code.NoTurn
of_turn (Some actor) given = given

-- in a turn its actor
abbrev pub self_of : Option Name → Answer
self_of None = answer.Fault code.NoTurn
self_of (Some actor) = answer.Value (value.Actor actor)

-- The answer of a request of a turn of that actor, or of no turn, where that is the name of the next thing that is made. A
-- deref, a ref-set, a join and a dosync have none: what they are answered is looked up.
abbrev pub answer_ahead : Option Name → Name → Request → Option Answer
answer_ahead actor next (request.Print text) = Some (answer.Value value.Nil)
answer_ahead actor next (request.NewRef v) = Some (answer.Value (value.Ref next))
answer_ahead actor next (request.Deref ref) = None
answer_ahead actor next (request.RefSet ref v) = None
answer_ahead actor next (request.Fork body values) = Some (answer.Value (value.Future next))
answer_ahead actor next (request.Join future) = None
answer_ahead actor next (request.Dosync body values) = None
answer_ahead actor next (request.Spawn behaviour state) = Some (answer.Value (value.Actor next))
answer_ahead actor next (request.Send to message) = Some (answer.Value value.Nil)
answer_ahead actor next (request.Become behaviour state) = Some (of_turn actor (answer.Value value.Nil))
answer_ahead actor next request.SelfActor = Some (self_of actor)
