-- The operation of a node, given its hidden arguments and the others in one list.
use Rattle.std.specs.Prelude.{◌≡◌, List, [], Result, Ok, Err}
use Rattle.value_core.specs.Place.{Spot}
use Rattle.value_core.specs.declared.op_fault.OpFault.{OpFault}
use Rattle.value_core.specs.declared.op_fault.OpFault.TheVariants as fault
use Rattle.value_core.specs.declared.value.Value.{Value}
use Rattle.core_syntax.specs.declared.node.Node.{Node}
use Rattle.core_syntax.specs.declared.node.Node.TheVariants as node
use Rattle.serial_model.specs.declared.halt.Halt.TheVariants as halt
use Rattle.serial_model.specs.declared.request.Request.TheVariants as request
use Rattle.serial_model.specs.Operation as operation
use Rattle.serial_model.specs.Operation.{hidden_values, sealed, operate}
use Rattle.eval_frames.specs.Control.{Control}
use Rattle.eval_frames.specs.Control as control
use Rattle.eval_frames.specs.declared.outcome.Outcome.{Outcome}
use Rattle.eval_frames.specs.declared.outcome.Outcome.TheVariants as outcome

-- the outcome that is meant
abbrev pub meaning : Outcome → operation.Action
meaning (outcome.Gives v) = operation.Gives v
meaning (outcome.Faults code) = operation.Faults code
meaning (outcome.Asks asked) = operation.Asks asked

-- the hidden arguments of a node, which are taken from the frame
abbrev pub hidden_of : List Value → Node → List Value
hidden_of frame (node.Call number hidden written) = hidden_values frame hidden
hidden_of frame (node.Spawn number hidden written) = hidden_values frame hidden
hidden_of frame (node.Become number hidden written) = hidden_values frame hidden
hidden_of frame other = []

-- what the node does in its frame with the values of its hidden arguments and of the others
unfoldable pub finish : List Value → Node → List Value → operation.Action
finish frame (node.Call number hidden written) values = operation.Calls number values
finish frame (node.Spawn number hidden written) values = sealed values (request.Spawn number values)
finish frame (node.Become number hidden written) values = sealed values (request.Become number values)
finish frame other values = operate frame other values

-- the node is no primitive, no vector and no call
abbrev pub IsAct : Node → Type 0
IsAct (node.Op op written) = ⊥
IsAct (node.Vector items) = ⊥
IsAct (node.Call number hidden written) = ⊥
IsAct other = Unit {0}

-- the value that a primitive gives, its fault, or want of memory
abbrev pub Comes : Result Value OpFault → operation.Action → Type 0
Comes (Ok v) due = operation.Gives v ≡ due
Comes (Err fault.Memory) due = Unit {0}
Comes (Err other) due = operation.Faults (operation.code_of other) ≡ due

-- the action is done there, for the form at that place; a call is none
abbrev pub Acts : operation.Action → Spot → Control → Type 0
Acts (operation.Gives v) at stands = stands ≡ control.Deliver v
Acts (operation.Faults code) at stands = stands ≡ control.Halted (halt.Fault code at)
Acts (operation.Asks asked) at stands = stands ≡ control.Halted (halt.Ask asked at)
Acts (operation.Calls number frame) at stands = ⊥
