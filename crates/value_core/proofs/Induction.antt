-- What holds of a value where it holds of its parts holds of all values.
use Rattle.std.proofs.Common.{ℕ, ℤ, Bool, List, get_or, map, sym, subst}
use Rattle.std.specs.Prelude.{All}
use Rattle.std.proofs.lemmas.List.Elements.{All-map}
use denote.Hole.Holds.{Such}
use Rattle.value_core.specs.declared.pair.Pair.{Pair}
use Rattle.value_core.specs.declared.value.Value.{Value}
use Rattle.value_core.specs.declared.value.Value.TheBlock.{the_family, member-Value}
use Rattle.value_core.specs.declared.value.Value.TheVariants as value
use Rattle.value_core.specs.declared.value.Value.TheOpen as one
use Rattle.value_core.specs.declared.value.Value.TheViews.{roll-Value}
use Rattle.value_core.specs.declared.value.Value.TheFolds.{ind-Value, map-Value, claims}

-- the cases of an induction on values
pub record Cases (P : Value → Type 0) : Type 0 where
  pub nil : P value.Nil
  pub bool : (b : Bool) → P (value.Bool b)
  pub int : (n : ℤ) → P (value.Int n)
  pub str : (text : List ℕ) → P (value.Str text)
  pub kw : (name : List ℕ) → P (value.Kw name)
  pub vector : (vs : List Value) → All P vs → P (value.Vector vs)
  pub map : (ps : List (Pair Value)) → All (λ p. P p.value) ps → P (value.Map ps)
  pub ref : (name : List ℕ) → P (value.Ref name)
  pub actor : (name : List ℕ) → P (value.Actor name)
  pub future : (name : List ℕ) → P (value.Future name)

module _ (P : Value → Type 0) (cases : Cases P) where
  abbrev Known : Type 0
  Known = Such the_family (claims P) member-Value

  abbrev level_of : one.Value-F Known → one.Value-F Value
  level_of y = map-Value Known Value (λ e. e.0) y

  holds_at : (y : one.Value-F Known) → P (roll-Value (level_of y))
  holds_at one.Nil = subst P (sym value.rolls-Nil) cases.nil
  holds_at (one.Bool b) = subst P (sym (value.rolls-Bool b)) (cases.bool b)
  holds_at (one.Int n) = subst P (sym (value.rolls-Int n)) (cases.int n)
  holds_at (one.Str text) = subst P (sym (value.rolls-Str text)) (cases.str text)
  holds_at (one.Kw name) = subst P (sym (value.rolls-Kw name)) (cases.kw name)
  holds_at (one.Vector parts) =
      let vs = map (λ (e : Known). e.0) parts in
      subst P (sym (value.rolls-Vector vs)) (cases.vector vs (All-map P (λ (e : Known). e.0) parts (λ k d lt. (get_or parts k d).1)))
  holds_at (one.Map parts) =
      let known : Pair Known → Pair Value = λ p. record { key = p.key; value = p.value.0 } in
      subst P (sym (value.rolls-Map (map known parts))) (cases.map (map known parts) (All-map (λ (p : Pair Value). P p.value) known parts (λ k d lt. (get_or parts k d).value.1)))
  holds_at (one.Ref name) = subst P (sym (value.rolls-Ref name)) (cases.ref name)
  holds_at (one.Actor name) = subst P (sym (value.rolls-Actor name)) (cases.actor name)
  holds_at (one.Future name) = subst P (sym (value.rolls-Future name)) (cases.future name)

  pub by_parts : (v : Value) → P v
  by_parts v = ind-Value P (λ x y is. subst (λ (l : one.Value-F Value). P (roll-Value l)) is (holds_at y)) v
