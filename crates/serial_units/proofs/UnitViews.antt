-- Units by name, and what they mean.
use Rattle.std.proofs.Common.{◌≡◌, ◌∙◌, ◌⊎◌, inl, inr, Bool, List, [], refl, sym, ap, subst, Option, Some, None}
use Rattle.std.specs.Option.{option_map, option_and_then}
use Rattle.value_core.specs.declared.value.Value.{Value}
use Rattle.value_core.specs.Named.{Name, Named, named, with_named, each_as, IsChanged}
use Rattle.value_core.proofs.NamedLaws.{found_in}
use Rattle.value_core.proofs.NamedViews.{named-each_as, each_as-with_named}
use Rattle.core_syntax.specs.declared.node_id.NodeId.{NodeId}
use Rattle.eval_step.specs.Evaluation.{Evaluation}
use Rattle.serial_model.specs.State.{Setup, UnitState, new_unit}
use Rattle.serial_units.specs.declared.unit.Becoming.{Becoming as KeptBecoming}
use Rattle.serial_units.specs.declared.unit.Unit.{Unit}
use Rattle.serial_units.specs.Units.{unit_of, units_of, IsUnit, AreUnits, settled}

-- what is found in a view is the view of what is kept
pub record IsHeld {X Y : Type 0} (f : X → Y) (name : Name) (es : Named X) (y : Y) : Type 0 where
  pub item : X
  pub there : named name es ≡ Some item
  pub is : f item ≡ y

pub held : {X Y : Type 0} (f : X → Y) (name : Name) (es : Named X) (y : Y) → named name (each_as f es) ≡ Some y → IsHeld f name es y
held {X} {Y} f name es y found = on (named name es) refl (sym (named-each_as f name es) ∙ found)
  where
    on : (o : Option X) → named name es ≡ o → option_map f o ≡ Some y → IsHeld f name es y
    on None there is = cc
    on (Some x) there is = record { item = x; there = there; is = (let same : f x ≡ y = cc in same) }

-- the units stay units where one is put
pub put_units : (setup : Setup) (name : Name) (unit : Unit) (units : Named Unit) → IsUnit setup unit → AreUnits setup units → AreUnits setup (with_named units name unit)
put_units setup name unit units is are n u found = on (found_in n name unit u units found)
  where
    on : ((n ≡ name) × (u ≡ unit)) ⊎ (named n units ≡ Some u) → IsUnit setup u
    on (inl here) = subst (IsUnit setup) (sym here.1) is
    on (inr there) = are n u there

-- a unit is settled
abbrev pub IsSettled : Bool → Option KeptBecoming → Value → Unit → Unit → Type 0
IsSettled made becomes v unit after = (unit_of after ≡ settled made becomes (unit_of unit) v) × ((setup : Setup) → IsUnit setup unit → IsUnit setup after)

pub units_settled : (setup : Setup) (name : Name) (old new : Named Unit) (made : Bool) (becomes : Option KeptBecoming) (v : Value) (unit : UnitState)
    → IsChanged name old new (IsSettled made becomes v) → named name (units_of old) ≡ Some unit
    → (units_of new ≡ with_named (units_of old) name (settled made becomes unit v)) × (AreUnits setup old → AreUnits setup new)
units_settled setup name old new made becomes v unit changed there =
    let it = held unit_of name old unit there in
    let to = changed it.item it.there in (
      ap units_of to.put ∙ each_as-with_named unit_of name to.item old
          ∙ ap (with_named (units_of old) name) (to.related.0 ∙ ap (λ u. settled made becomes u v) it.is),
      λ are. subst (AreUnits setup) (sym to.put) (put_units setup name to.item old (to.related.1 setup (are name it.item it.there)) are),
    )

-- the unit found is the unit of the state
pub same_unit : (name : Name) (es : Named Unit) (u : Unit) (unit : UnitState) (found : Option Unit) → found ≡ named name es → found ≡ Some u → named name (units_of es) ≡ Some unit → unit_of u ≡ unit
same_unit name es u unit found is some there =
    let view : named name (units_of es) ≡ Some (unit_of u) = named-each_as unit_of name es ∙ ap (option_map unit_of) (sym is ∙ some) in cc

pub no_unit : (name : Name) (es : Named Unit) (unit : UnitState) (found : Option Unit) → found ≡ named name es → found ≡ None → named name (units_of es) ≡ Some unit → ⊥
no_unit name es unit found is none there =
    let view : named name (units_of es) ≡ None = named-each_as unit_of name es ∙ ap (option_map unit_of) (sym is ∙ none) in cc

pub finished_of : (name : Name) (es : Named Unit) (found : Option Unit) → found ≡ named name es → option_and_then (λ (u : Unit). u.value) found ≡ option_and_then (λ (unit : UnitState). unit.finished) (named name (units_of es))
finished_of name es found is = ap (option_and_then (λ (u : Unit). u.value)) is ∙ on (named name es) ∙ sym (ap (option_and_then (λ (unit : UnitState). unit.finished)) (named-each_as unit_of name es))
  where
    on : (o : Option Unit) → option_and_then (λ (u : Unit). u.value) o ≡ option_and_then (λ (unit : UnitState). unit.finished) (option_map unit_of o)
    on None = refl
    on (Some u) = refl

abbrev pub begun : Option Name → Evaluation → Unit
begun actor machine = record { actor = actor; machine = machine; made = 0; becomes = None; value = None }

-- a unit that begins
pub begun_is : (actor : Option Name) (m : Evaluation) (body : NodeId) (values : List Value) → m.body ≡ body → m.values ≡ values → m.answers ≡ [] → unit_of (begun actor m) ≡ new_unit actor body values
begun_is actor m body values same_body same_values none =
    ap (λ b. record (unit_of (begun actor m)) { body = b }) same_body
    ∙ ap (λ vs. record (unit_of (begun actor m)) { body = body; values = vs }) same_values
    ∙ ap (λ given. record (unit_of (begun actor m)) { body = body; values = values; answers = given }) none
