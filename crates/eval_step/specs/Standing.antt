-- Where an evaluation stands, in what context, and the fuel that it has left.
use mathlib.Core.Logic.{◌⊎◌, inl, inr}
use base.Stored.{coded_unit}
use Rattle.std.specs.Prelude.{◌≡◌, ℕ, List, refl}
use Rattle.std.specs.Coded.{Coded, code_by, coded×, coded⊎, coded_ℕ, coded_list}
use Rattle.value_core.specs.contracts.value.Value as value
use Rattle.core_syntax.specs.contracts.node_id.NodeId as node_id
use Rattle.serial_model.specs.contracts.halt.Halt as halt
use Rattle.eval_step.specs.contracts.context.Context as context
use Rattle.value_core.specs.declared.value.Value.{Value}
use Rattle.core_syntax.specs.declared.node_id.NodeId.{NodeId}
use Rattle.serial_model.specs.declared.halt.Halt.{Halt}
use Rattle.eval_step.specs.declared.context.Context.{Context}
use Rattle.eval_step.specs.declared.walk.Walk.{Walk}
use Rattle.eval_frames.specs.Control.{Control, Begin, Enter, Deliver, Arguments, Halted, Failed, standing}

pub record Standing : Type 0 where
  pub control : Control
  pub context : Context
  pub left : ℕ

-- where a walk stands
abbrev pub standing_of : Walk → Standing
standing_of w = record { control = standing w.at w.registers; context = w.context; left = w.left }

-- the kinds of places, one beside the other
abbrev pub Kinds : Type 0
Kinds = NodeId ⊎ (NodeId ⊎ (Value ⊎ ((NodeId × (List Value × ℕ)) ⊎ (Halt ⊎ Unit {0}))))

abbrev pub kind_of : Control → Kinds
kind_of (Begin body) = inl body
kind_of (Enter id) = inr (inl id)
kind_of (Deliver v) = inr (inr (inl v))
kind_of (Arguments id values number) = inr (inr (inr (inl (id, (values, number)))))
kind_of (Halted stop) = inr (inr (inr (inr (inl stop))))
kind_of Failed = inr (inr (inr (inr (inr tt))))

abbrev pub of_kind : Kinds → Control
of_kind (inl body) = Begin body
of_kind (inr (inl id)) = Enter id
of_kind (inr (inr (inl v))) = Deliver v
of_kind (inr (inr (inr (inl k)))) = Arguments k.0 k.1.0 k.1.1
of_kind (inr (inr (inr (inr (inl stop))))) = Halted stop
of_kind (inr (inr (inr (inr (inr done))))) = Failed

pub same-kind : (c : Control) → of_kind (kind_of c) ≡ c
same-kind (Begin body) = refl
same-kind (Enter id) = refl
same-kind (Deliver v) = refl
same-kind (Arguments id values number) = refl
same-kind (Halted stop) = refl
same-kind Failed = refl

-- a place is stored as what it has
abbrev pub control_code : Coded Control
control_code = code_by Kinds
    (coded⊎ (node_id.the_row).coded (coded⊎ (node_id.the_row).coded (coded⊎ (value.the_row).coded (coded⊎ (coded× (node_id.the_row).coded (coded× (coded_list (value.the_row).coded) coded_ℕ)) (coded⊎ (halt.the_row).coded coded_unit)))))
    kind_of of_kind same-kind

-- and so is where an evaluation stands
abbrev pub standing_code : Coded Standing
standing_code = code_by (Control × (Context × ℕ)) (coded× control_code (coded× (context.the_row).coded coded_ℕ)) (λ s. (s.control, (s.context, s.left))) (λ p. record { control = p.0; context = p.1.0; left = p.1.1 }) (λ _. refl)
