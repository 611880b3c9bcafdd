-- Values that are told by the runs of their items.
use Rattle.std.proofs.Common.{◌≡◌, List, [], ◌∷◌, map, refl, sym, ◌∙◌, ap}
use Rattle.std.specs.Prelude.{◌↔◌, Some}
use Rattle.serial_model.specs.declared.answer.Answer.{Answer}
use Rattle.serial_model.specs.declared.answer.Answer.TheVariants as answer
use Rattle.value_core.specs.declared.value.Value.{Value}
use Rattle.value_core.specs.declared.value.Value.TheOpen as one
use Rattle.value_core.specs.declared.value.Value.TheVariants as value
use Rattle.value_core.specs.declared.value.Value.TheViews.{out-Value}
use Rattle.captured_values.specs.Told.{IsTold}

-- the items of a vector
abbrev items_step : one.Value-F Value → List Value
items_step (one.Vector items) = items
items_step _ = []

items_same : (xs ys : List Value) → value.Vector xs ≡ value.Vector ys → xs ≡ ys
items_same xs ys e = ap items_step (sym (value.outs-Vector xs) ∙ ap out-Value e ∙ value.outs-Vector ys)

-- what has the same runs has the same items
values_same : (xs ys : List Value) → map answer.Value xs ≡ map answer.Value ys → xs ≡ ys
values_same [] [] e = refl
values_same [] (y ∷ ys) e = absurd (cc)
values_same (x ∷ xs) [] e = absurd (cc)
values_same (x ∷ xs) (y ∷ ys) e =
    let first : x ≡ y = cc in
    let others : map answer.Value xs ≡ map answer.Value ys = cc in
    ap (λ z. z ∷ xs) first ∙ ap (λ zs. y ∷ zs) (values_same xs ys others)

-- two values that are told are the same where their runs hold the same
pub told_same : (a b : List Answer) (v w : Value) → IsTold (Some a) v → IsTold (Some b) w → (a ≡ b) ↔ (v ≡ w)
told_same a b v w one other = (
  λ e. one.1 ∙ ap value.Vector (values_same one.0 other.0 (sym one.2 ∙ e ∙ other.2)) ∙ sym other.1,
  λ e. one.2 ∙ ap (map answer.Value) (items_same one.0 other.0 (sym one.1 ∙ e ∙ other.1)) ∙ sym other.2,
)
