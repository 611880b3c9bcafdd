-- Requests, answers and what a body comes to may be moved into a thread.
use denote.Param.Send.{IsSend, sendable}
use denote.Param.SendFields.{declared_send, variants_send, as_row_send}
use Rattle.std.proofs.Crossing.{crosses}
use Rattle.value_core.proofs.Crossing.{name_send, value_send, values_send}
use Rattle.serial_model.specs.contracts.answer.Answer as answer
use Rattle.serial_model.specs.contracts.halt.Halt as halt
use Rattle.serial_model.specs.contracts.request.Request as request

-- what a type's parts give it
pub ruleset fields = (variants_send, declared_send, as_row_send, crosses, sendable)

pub request_send : IsSend request.the_row
request_send = search (name_send, value_send, values_send, fields) depth 60 fits 20000

pub halt_send : IsSend halt.the_row
halt_send = search (value_send, request_send, fields) depth 60 fits 20000

pub answer_send : IsSend answer.the_row
answer_send = search (value_send, fields) depth 60 fits 20000
