-- How a run comes from state to state by a step of a unit.
use Rattle.std.proofs.Common.{◌≡◌, ◌∙◌, ℕ, Bool, false, List, refl, sym, ap, subst, Option, Some, None}
use Rattle.std.specs.Option.{IsSome, option_and_then}
use Rattle.value_core.specs.declared.value.Value.{Value}
use Rattle.value_core.specs.Named.{Name, Named, named, with_named, IsChanged}
use Rattle.value_core.proofs.NamedLaws.{named-here}
use Rattle.value_core.proofs.NamedViews.{each_as-with_named, view_found}
use Rattle.serial_model.specs.declared.halt.Halt.{Halt}
use Rattle.serial_model.specs.declared.actor_state.ActorState.{ActorState}
use Rattle.serial_model.specs.State.{Setup, Becoming, UnitState, State}
use Rattle.serial_model.specs.Step.{released, finishes, with_unit, goes_on, run_step, unit_step, if_unfinished, next_of}
use Rattle.serial_units.specs.Units.{unit_of, units_of, AreUnits, IsUnit, IsRun, IsRunTo, IsFinished}
use Rattle.serial_units.proofs.UnitViews.{put_units, held}
use Rattle.serial_machine.specs.declared.now.Now.{Now}
use Rattle.serial_machine.specs.Actors.{IsFreed}
use Rattle.serial_machine.specs.Now.{state_after, IsNow, Does, Steps, Tries, IsStepped}
use Rattle.serial_machine.proofs.States.{does_from}

-- the actor of a turn is idle
pub released_actor : (setup : Setup) (name actor : Name) (old new : Now) (becomes : Option Becoming) → IsFreed actor old.actors.entries new.actors.entries (named actor old.actors.entries) becomes
    → new ≡ record old { actors = new.actors } → ((unit : UnitState) → named name (units_of old.units) ≡ Some unit → (Some actor ≡ unit.actor) × (becomes ≡ unit.becomes))
    → Does setup name old new (λ s unit. released unit.actor s unit.becomes)
released_actor setup name actor old new becomes freed others is = does_from setup name old new (λ s unit. released unit.actor s unit.becomes) (λ before unit are there.
    subst (λ (o : Option Name). IsNow setup before new (released o (state_after before old) unit.becomes)) (is unit there).0
    (subst (λ (b : Option Becoming). IsNow setup before new (released (Some actor) (state_after before old) b)) (is unit there).1 (on before are (named actor old.actors.entries) refl freed)))
  where
    on : (before : List ℕ) → AreUnits setup old.units → (o : Option ActorState) → named actor old.actors.entries ≡ o → IsFreed actor old.actors.entries new.actors.entries o becomes
        → IsNow setup before new (released (Some actor) (state_after before old) becomes)
    on before are None none same = rw none (record {
      is = ap (state_after before) others ∙ ap (λ (acting : Named ActorState). record (state_after before old) { actors = acting }) same;
      units = subst (λ (n : Now). AreUnits setup n.units) (sym others) are;
    })
    on before are (Some a) some same = rw some (record {
      is = ap (state_after before) others ∙ ap (λ (acting : Named ActorState). record (state_after before old) { actors = acting }) same;
      units = subst (λ (n : Now). AreUnits setup n.units) (sym others) are;
    })

pub released_none : (setup : Setup) (name : Name) (old : Now) → ((unit : UnitState) → named name (units_of old.units) ≡ Some unit → None ≡ unit.actor)
    → Does setup name old old (λ s unit. released unit.actor s unit.becomes)
released_none setup name old is before s unit at there =
    subst (λ (o : Option Name). IsNow setup before old (released o s unit.becomes)) (is unit (subst (λ (t : State). named name t.units ≡ Some unit) (sym at.is) there)) at

-- a unit is finished, and its actor is idle
pub finished_unit : (setup : Setup) (name : Name) (old mid new : Now) (v : Value) → IsChanged name old.units mid.units (λ unit after. after ≡ record unit { value = Some v })
    → mid ≡ record old { units = mid.units } → Does setup name mid new (λ s unit. released unit.actor s unit.becomes) → Does setup name old new (λ s unit. finishes s name unit v)
finished_unit setup name old mid new v changed others releases before s unit at there =
    let still : named name (units_of old.units) ≡ Some unit = subst (λ (t : State). named name t.units ≡ Some unit) (sym at.is) there in
    let it = held unit_of name old.units unit still in
    let to = changed it.item it.there in
    let view : unit_of to.item ≡ record unit { finished = Some v } = ap unit_of to.related ∙ ap (λ (u : UnitState). record u { finished = Some v }) it.is in
    let are = at.units name it.item it.there in
    let here : IsNow setup before mid (with_unit s name (record unit { finished = Some v })) = record {
      is = ap (state_after before) others ∙ ap (λ us. record (state_after before old) { units = us }) (ap units_of to.put ∙ each_as-with_named unit_of name to.item old.units ∙ ap (with_named (units_of old.units) name) view)
          ∙ ap (λ (t : State). with_unit t name (record unit { finished = Some v })) at.is;
      units = subst (AreUnits setup) (sym to.put) (put_units setup name to.item old.units
          (subst (IsUnit setup) (sym to.related) (record { inside = are.inside; fuel = are.fuel; of = are.of })) at.units);
    } in
    releases before (with_unit s name (record unit { finished = Some v })) (record unit { finished = Some v }) here (named-here name (record unit { finished = Some v }) s.units)

-- the run is at the same state, after the unit went on
pub still_now : (setup : Setup) (before : List ℕ) (old new : Now) (s : State) → IsNow setup before old s → new ≡ record old { units = new.units } → units_of new.units ≡ units_of old.units
    → AreUnits setup new.units → IsNow setup before new s
still_now setup before old new s at others same are = record {
  is = ap (state_after before) others ∙ ap (λ us. record (state_after before old) { units = us }) same ∙ at.is;
  units = are;
}

module _ (setup : Setup) (name : Name) (old mid new : Now) (others : mid ≡ record old { units = mid.units }) where
  -- an unfinished unit ran
  pub ran : (stop : Halt) (done : Bool) → IsRunTo setup name old.units mid.units stop → Tries setup name mid new done (λ s unit. goes_on setup s name unit stop)
      → Steps setup old new done (λ s. run_step setup s name)
  ran stop done to tries before s at =
      let view : named name s.units ≡ Some (unit_of to.unit) = subst (λ (t : State). named name t.units ≡ Some (unit_of to.unit)) at.is (view_found unit_of name old.units to.unit to.there) in
      let here = still_now setup before old mid s at others to.same to.units in
      let gone = tries before s (unit_of to.unit) here view in
      (subst (λ (o : Option UnitState). IsStepped setup before new s (option_and_then (unit_step setup s name) o) done) (sym view)
      (subst (λ (v : Option Value). IsStepped setup before new s (if_unfinished v (goes_on setup s name (unit_of to.unit) (next_of setup (unit_of to.unit)))) done) (sym to.unfinished)
      (subst (λ (h : Halt). IsStepped setup before new s (goes_on setup s name (unit_of to.unit) h) done) to.stops gone)))

  -- a unit that is finished, or not there, does not run
  pub idle_unit : mid ≡ new → IsRun setup name old.units mid.units None → Steps setup old new false (λ s. run_step setup s name)
  idle_unit same run before s at =
      subst (λ (n : Now). IsStepped setup before n s (run_step setup s name) false) same
      (on (named name s.units) (subst (λ (t : State). IsFinished (named name t.units)) at.is run.2) (still_now setup before old mid s at others run.0 run.1))
    where
      on : (o : Option UnitState) → IsFinished o → IsNow setup before mid s → IsStepped setup before mid s (option_and_then (unit_step setup s name) o) false
      on None none here = here
      on (Some unit) is here = ended unit.finished is here
        where
          ended : (v : Option Value) → IsSome v → IsNow setup before mid s → IsStepped setup before mid s (if_unfinished v (goes_on setup s name unit (next_of setup unit))) false
          ended None is here = cc
          ended (Some v) is here = here
