-- Programs whose nodes fit: whatever the answers are, no evaluation meets a name outside its frame, or a number of
-- arguments that isn't taken.
use Rattle.std.specs.Prelude.{◌≡◌, ℕ, Bool, if◌then◌else◌, List, [], Contains}
use Rattle.value_core.specs.Place.{Spot}
use Rattle.value_core.specs.declared.value.Value.{Value}
use Rattle.value_core.specs.primitives.Words.{takes_of}
use Rattle.core_syntax.specs.declared.behaviour.Behaviour.{Behaviour}
use Rattle.core_syntax.specs.declared.node_id.NodeId.{NodeId}
use Rattle.core_syntax.specs.Fits.{fits}
use Rattle.core_syntax.specs.Table.{Table}
use Rattle.serial_model.specs.declared.answer.Answer.{Answer}
use Rattle.serial_model.specs.declared.halt.Halt.TheVariants as halt
use Rattle.serial_model.specs.declared.request.Request.TheVariants as request
use Rattle.serial_model.specs.Eval.{Out, Guard, unguarded, guarded_out, next}

-- a node that doesn't fit into its frame comes to something else
abbrev pub fitting : Out → Table → Guard
fitting amiss table size node out = if fits takes_of table size node then out else amiss

-- With these bodies and values the evaluations of a program begin: main with none, a behaviour's body with any values,
-- and what such an evaluation asks for as a task or a transaction.
pub data IsBegun (table : Table) : NodeId → List Value → Type 0 where
  main : IsBegun table table.main []
  turn : (b : Behaviour) (values : List Value) → Contains table.behaviours b → IsBegun table b.body values
  task : {body inner : NodeId} {values frame : List Value} {at : Spot} (inside : Bool) (answers : List Answer) (fuel : ℕ)
      → IsBegun table body values → next table body values inside answers fuel ≡ halt.Ask (request.Fork inner frame) at → IsBegun table inner frame
  transaction : {body inner : NodeId} {values frame : List Value} {at : Spot} (inside : Bool) (answers : List Answer) (fuel : ℕ)
      → IsBegun table body values → next table body values inside answers fuel ≡ halt.Ask (request.Dosync inner frame) at → IsBegun table inner frame

-- whatever stands in the place of what doesn't fit, the evaluation is the same: it never comes to such a node
abbrev pub MeetsNoMisfit : Table → NodeId → List Value → Type 0
MeetsNoMisfit table body values = (amiss : Out) (inside : Bool) (answers : List Answer) (fuel : ℕ)
    → guarded_out (fitting amiss table) table body values inside answers fuel ≡ guarded_out unguarded table body values inside answers fuel
