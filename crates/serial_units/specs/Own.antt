-- Requests that a task answers by itself.
use Rattle.std.specs.Prelude.{Option, Some}
use Rattle.value_core.specs.Named.{Name}
use Rattle.serial_model.specs.declared.answer.Answer.{Answer}
use Rattle.serial_model.specs.declared.answer.Answer.TheVariants as answer
use Rattle.serial_model.specs.declared.request.Request.{Request}
use Rattle.serial_model.specs.declared.request.Request.TheVariants as request
use Rattle.serial_model.specs.Ahead.{answer_ahead}

-- the answer rests on nothing but the task: the request is no deref, fork, join or dosync
abbrev pub IsOwn : Request → Type 0
IsOwn (request.Deref ref) = ⊥
IsOwn (request.Fork body values) = ⊥
IsOwn (request.Join future) = ⊥
IsOwn (request.Dosync body values) = ⊥
IsOwn _ = Unit {0}

-- what such a request is answered in a turn of that actor, or in none, where that is the name of the next thing that is made
abbrev pub own_answer : Option Name → Name → Request → Option Answer
own_answer actor next (request.RefSet ref v) = Some (answer.Value v)
own_answer actor next asked = answer_ahead actor next asked
