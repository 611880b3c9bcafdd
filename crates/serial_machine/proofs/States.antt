-- How a run comes from state to state.
use Rattle.std.proofs.Common.{◌≡◌, ◌∙◌, ℕ, suc, Bool, false, List, [], sym, ap, subst, Option, Some}
use Rattle.value_core.specs.declared.value.Value.{Value}
use Rattle.value_core.specs.Named.{Name, named, with_named, IsChanged}
use Rattle.value_core.proofs.NamedViews.{each_as-with_named}
use Rattle.core_syntax.specs.declared.node_id.NodeId.{NodeId}
use Rattle.eval_step.specs.Evaluation.{Evaluation, IsOf}
use Rattle.serial_model.specs.State.{Setup, UnitState, State, new_unit}
use Rattle.serial_model.specs.Step.{with_unit}
use Rattle.serial_units.specs.declared.unit.Becoming.{Becoming as KeptBecoming}
use Rattle.serial_units.specs.Units.{unit_of, units_of, AreUnits, settled}
use Rattle.serial_units.proofs.UnitViews.{put_units, units_settled, begun, begun_is, IsSettled}
use Rattle.serial_machine.specs.declared.now.Now.{Now}
use Rattle.serial_machine.specs.Now.{state_after, IsNow, Comes, Does}

-- from each state that it is at
pub does_from : (setup : Setup) (name : Name) (old new : Now) (after : State → UnitState → State)
    → ((before : List ℕ) (unit : UnitState) → AreUnits setup old.units → named name (units_of old.units) ≡ Some unit → IsNow setup before new (after (state_after before old) unit))
    → Does setup name old new after
does_from setup name old new after does before s unit at there =
    subst (λ (t : State). named name t.units ≡ Some unit → IsNow setup before new (after t unit)) at.is (does before unit at.units) there

pub comes_from : (setup : Setup) (old new : Now) (after : State → State)
    → ((before : List ℕ) → AreUnits setup old.units → IsNow setup before new (after (state_after before old))) → Comes setup old new after
comes_from setup old new after comes before s at = subst (λ (t : State). IsNow setup before new (after t)) at.is (comes before at.units)

-- the unit's request is settled
pub replied : (setup : Setup) (name : Name) (old new : Now) (made : Bool) (becomes : Option KeptBecoming) (v : Value)
    → IsChanged name old.units new.units (IsSettled made becomes v) → new ≡ record old { units = new.units }
    → Does setup name old new (λ s unit. with_unit s name (settled made becomes unit v))
replied setup name old new made becomes v changed others = does_from setup name old new (λ s unit. with_unit s name (settled made becomes unit v)) (λ before unit are there.
    let it = units_settled setup name old.units new.units made becomes v unit changed there in
    record { is = ap (state_after before) others ∙ ap (λ us. record (state_after before old) { units = us }) it.0; units = it.1 are })

-- a unit begins, and counts
pub started : (setup : Setup) (name : Name) (actor : Option Name) (body : NodeId) (values : List Value) (old mid new : Now) (m : Evaluation)
    → mid ≡ record old { made = suc old.made } → new.units ≡ with_named mid.units name (begun actor m) → new ≡ record mid { units = new.units }
    → m.body ≡ body → m.values ≡ values → m.answers ≡ [] → m.inside ≡ false → m.fuel ≡ setup.limits.fuel → IsOf setup.program m
    → Comes setup old new (λ s. with_unit (record s { made = suc s.made }) name (new_unit actor body values))
started setup name actor body values old mid new m counted put others same_body same_values none outside fuel of =
    comes_from setup old new (λ s. with_unit (record s { made = suc s.made }) name (new_unit actor body values)) (λ before are. record {
      is = ap (state_after before) (others ∙ ap (λ (n : Now). record n { units = new.units }) counted)
          ∙ ap (λ us. record (state_after before old) { made = suc old.made; units = us })
          (ap units_of there ∙ each_as-with_named unit_of name (begun actor m) old.units ∙ ap (with_named (units_of old.units) name) (begun_is actor m body values same_body same_values none));
      units = subst (AreUnits setup) (sym there) (put_units setup name (begun actor m) old.units (record { inside = outside; fuel = fuel; of = of }) are);
    })
  where
    there : new.units ≡ with_named old.units name (begun actor m)
    there = put ∙ ap (λ (n : Now). with_named n.units name (begun actor m)) counted
