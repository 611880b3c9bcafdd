-- Where a machine stands, with what belongs to that.
use Rattle.std.specs.Prelude.{ℕ, List}
use Rattle.value_core.specs.declared.value.Value.{Value}
use Rattle.core_syntax.specs.declared.node_id.NodeId.{NodeId}
use Rattle.serial_model.specs.declared.halt.Halt.{Halt}
use Rattle.eval_frames.specs.declared.at.At.{At}
use Rattle.eval_frames.specs.declared.at.At.TheVariants as stand
use Rattle.eval_frames.specs.declared.registers.Registers.{Registers}

-- Before its body, before a node, behind one with its value, before the argument of a node with that number with the
-- values before it, where it stops, or where memory was wanting.
pub data Control : Type 0 where
  Begin : NodeId → Control
  Enter : NodeId → Control
  Deliver : Value → Control
  Arguments : NodeId → List Value → ℕ → Control
  Halted : Halt → Control
  Failed : Control

-- what belongs to the place is in the registers
abbrev pub standing : At → Registers → Control
standing (stand.Begin body) registers = Begin body
standing (stand.Enter id) registers = Enter id
standing stand.Deliver registers = Deliver registers.value
standing (stand.Arguments id number) registers = Arguments id registers.values number
standing stand.Halted registers = Halted registers.stop.halt
standing stand.Failed registers = Failed
