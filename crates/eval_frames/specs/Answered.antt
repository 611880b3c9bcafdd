-- Where a machine stands behind its request.
use Rattle.value_core.specs.Place.{Spot}
use Rattle.serial_model.specs.declared.answer.Answer.{Answer}
use Rattle.serial_model.specs.declared.answer.Answer.TheVariants as answer
use Rattle.serial_model.specs.declared.halt.Halt.{Halt}
use Rattle.serial_model.specs.declared.halt.Halt.TheVariants as halt
use Rattle.eval_frames.specs.Control.{Control}
use Rattle.eval_frames.specs.Control as control

-- a value goes on, and a fault is one of the request's form
abbrev pub behind : Answer → Spot → Control
behind (answer.Value v) at = control.Deliver v
behind (answer.Fault code) at = control.Halted (halt.Fault code at)

-- a request has that answer
abbrev pub halt_answered : Halt → Answer → Control
halt_answered (halt.Ask request at) given = behind given at
halt_answered stop given = control.Halted stop

abbrev pub answered : Control → Answer → Control
answered (control.Halted stop) given = halt_answered stop given
answered other given = other
