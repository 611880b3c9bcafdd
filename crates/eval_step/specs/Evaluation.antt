-- What a machine is to evaluate, and how far it has come.
use Rattle.std.specs.Prelude.{◌≡◌, ℕ, Bool, List, ◌++◌, length, refl}
use Rattle.std.specs.Coded.{Coded, code_by, coded×, coded_bool, coded_ℕ, coded_list}
use Rattle.value_core.specs.contracts.value.Value as value
use Rattle.core_syntax.specs.contracts.node_id.NodeId as node_id
use Rattle.serial_model.specs.contracts.answer.Answer as answer
use Rattle.value_core.specs.declared.value.Value.{Value}
use Rattle.core_syntax.specs.declared.node_id.NodeId.{NodeId}
use Rattle.core_syntax.specs.Table.{Table}
use Rattle.serial_model.specs.declared.answer.Answer.{Answer}
use Rattle.serial_model.specs.declared.halt.Halt.{Halt}
use Rattle.serial_model.specs.declared.halt.Halt.TheVariants as halt
use Rattle.serial_model.specs.Eval.{end_of, next}
use Rattle.eval_frames.specs.Control.{Control}
use Rattle.eval_frames.specs.Control as control
use Rattle.eval_step.specs.Standing.{Standing, standing_code}
use Rattle.eval_step.specs.Walk.{Goes, FailedAt, IsIn, onto}

-- the body, its frame, whether it is inside a transaction, its fuel, the answers so far, and where it stands after them
pub record Evaluation : Type 0 where
  pub body : NodeId
  pub values : List Value
  pub inside : Bool
  pub fuel : ℕ
  pub answers : List Answer
  pub inner : Standing

-- an evaluation is stored as its parts
abbrev pub evaluation_code : Coded Evaluation
evaluation_code =
    code_by (NodeId × (List Value × (Bool × (ℕ × (List Answer × Standing)))))
    (coded× (node_id.the_row).coded (coded× (coded_list (value.the_row).coded) (coded× coded_bool (coded× coded_ℕ (coded× (coded_list (answer.the_row).coded) standing_code)))))
    (λ e. (e.body, (e.values, (e.inside, (e.fuel, (e.answers, e.inner))))))
    (λ p. record { body = p.0; values = p.1.0; inside = p.1.1.0; fuel = p.1.1.1.0; answers = p.1.1.1.1.0; inner = p.1.1.1.1.1 })
    (λ _. refl)

-- Unless memory was wanting, it stands where its body stands after its answers, whatever the answers still to come, and
-- all nodes that it names are in the table.
pub record IsOf (table : Table) (m : Evaluation) : Type 0 where
  pub stands : Goes m.inner.control → (answers : List Answer) →
      next table m.body m.values m.inside (m.answers ++ answers) m.fuel ≡ end_of (onto table m.inside m.inner.control m.inner.context.frame m.inner.context.stack m.inner.left answers)
  pub there : Goes m.inner.control → IsIn (length table.nodes) m.inner.context.stack m.inner.control

abbrev pub IsAsk : Halt → Type 0
IsAsk (halt.Ask request at) = Unit {0}
IsAsk _ = ⊥

abbrev pub AskingAt : Control → Type 0
AskingAt (control.Halted stop) = IsAsk stop
AskingAt _ = ⊥

-- memory was wanting
abbrev pub IsFailed : Evaluation → Type 0
IsFailed m = FailedAt m.inner.control

-- it stands at a request
abbrev pub IsAsking : Evaluation → Type 0
IsAsking m = AskingAt m.inner.control

-- both are to evaluate the same
pub record IsSameTask (m n : Evaluation) : Type 0 where
  pub body : n.body ≡ m.body
  pub values : n.values ≡ m.values
  pub inside : n.inside ≡ m.inside
  pub fuel : n.fuel ≡ m.fuel

-- both are to evaluate the same and have the same answers so far, wherever they stand
pub record IsSame (m n : Evaluation) : Type 0 where
  pub task : IsSameTask m n
  pub answers : n.answers ≡ m.answers
