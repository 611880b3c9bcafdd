-- A unit that is finished stays so, with its value.
use Rattle.std.proofs.Common.{◌≡◌, ◌∙◌, ◌⊎◌, inl, inr, ℕ, suc, ◌<◌, Bool, true, false, List, [], ◌∷◌, ◌++◌, refl, sym, ap, subst, arith}
use Rattle.std.specs.Prelude.{Option, None, Some}
use Rattle.std.specs.Option.{option_and_then}
use Rattle.value_core.specs.declared.value.Value.{Value}
use Rattle.value_core.specs.declared.value.Value.TheVariants as value
use Rattle.core_syntax.specs.declared.node_id.NodeId.{NodeId}
use Rattle.serial_model.specs.declared.actor_state.ActorState.{ActorState}
use Rattle.serial_model.specs.declared.entry.Entry.{Entry}
use Rattle.serial_model.specs.Laws.{ValuesStay}
use Rattle.value_core.specs.Named.{Name, Named, named, with_named, over as over_refs, made_by}
use Rattle.serial_model.specs.State.{Setup, UnitState, State, new_unit}
use Rattle.serial_model.specs.Step.{step, answered, with_made, with_unit, next_made, becoming, take_effects, value_of}
use Rattle.serial_model.proofs.runs.EffectLaws.{effects-keep, released-keeps}
use Rattle.serial_model.proofs.runs.Fresh.{Makes, OfUnit, OfActor}
use Rattle.serial_model.proofs.runs.Made.{IsMade}
use Rattle.value_core.proofs.NamedLaws.{named-here, named-other, same_or_not}
use Rattle.serial_model.proofs.runs.Stuck.{replay-sound}
use Rattle.serial_model.proofs.tasks.TaskKeeps.{transactions-keep}
use Rattle.core_syntax.specs.WellFormed.{IsWellFormed}
use Rattle.serial_model.proofs.runs.StepCases.{IsRunning, RunRows, StepRows, step-cases}

abbrev value_in : Named UnitState → Name → Option Value
value_in units f = option_and_then (λ (unit : UnitState). unit.finished) (named f units)

module _ (setup : Setup) (s : State) (made : IsMade s) (f : Name) (v : Value) (is : value_of s f ≡ Some v) where
  abbrev Kept : State → Type 0
  Kept t = value_of t f ≡ Some v

  -- it is there, and finished
  over : (unit : UnitState) → named f s.units ≡ Some unit → unit.finished ≡ Some v
  over unit there = sym (ap (option_and_then (λ (u : UnitState). u.finished)) there) ∙ is

  missing : named f s.units ≡ None → ⊥
  missing none = let no : None ≡ Some v = sym (ap (option_and_then (λ (u : UnitState). u.finished)) none) ∙ is in cc

  -- an entry is put under a name that is none of a finished unit
  put : (units : Named UnitState) (name : Name) (after : UnitState) → value_in units f ≡ Some v → ¬ (f ≡ name) → value_in (with_named units name after) f ≡ Some v
  put units name after so apart = ap (option_and_then (λ (u : UnitState). u.finished)) (named-other f name after units apart) ∙ so

  run-rows : (name : Name) (unit : UnitState) → IsRunning s name unit → RunRows setup s Kept name unit
  run-rows name unit running = record {
    prints = λ text at asks. put s.units name (answered unit value.Nil) is apart;
    new_ref = λ w at asks. put s.units name (answered (with_made unit) (value.Ref (next_made name unit))) is apart;
    derefs = λ ref at w asks there. put s.units name (answered unit w) is apart;
    forks = λ body values at asks room. put (with_named s.units (next_made name unit) (new_unit None body values)) name (answered (with_made unit) (value.Future (next_made name unit)))
        (put s.units (next_made name unit) (new_unit None body values) is child) apart;
    joins = λ future at w asks found. put s.units name (answered unit w) is apart;
    commits = λ body values at result w asks ran out held.
        let base = record s { refs = over_refs result.log.writes s.refs } in
        let done = take_effects name result.log.effects base unit in
        let kept = effects-keep name result.log.effects base unit in
        subst (λ units. value_in (with_named units name (answered (with_made done.1) w)) f ≡ Some v) (sym kept.base.units) (put s.units name (answered (with_made done.1) w) is apart);
    spawns = λ behaviour state at asks. put s.units name (answered (with_made unit) (value.Actor (next_made name unit))) is apart;
    sends = λ actor message at asks. put s.units name (answered unit value.Nil) is apart;
    becomes = λ behaviour state at actor asks of. put s.units name (answered (becoming unit behaviour state) value.Nil) is apart;
    selves = λ at actor asks of. put s.units name (answered unit (value.Actor actor)) is apart;
    finishes = λ w at_end.
        let after = record unit { finished = Some w } in
        let same = released-keeps unit.actor (with_unit s name after) unit.becomes in
        subst (λ units. value_in units f ≡ Some v) (sym same.units) (put s.units name after is apart);
  }
    where
      apart : ¬ (f ≡ name)
      apart same = let no : None ≡ Some v = sym running.unfinished ∙ over unit (ap (λ n. named n s.units) same ∙ running.there) in cc

      child : ¬ (f ≡ next_made name unit)
      child same = at (named f s.units) refl
        where
          at : (found : Option UnitState) → named f s.units ≡ found → ⊥
          at None none = missing none
          at (Some u) there =
              let fewer = made.fresh name unit.made f u.made unit.made [] (OfUnit unit running.there refl) (OfUnit u there refl) same in
              let no : ⊥ = omega arith in no

  step-rows : StepRows setup s Kept
  step-rows = record {
    ends = λ going end. is;
    runs = run-rows;
    begins = λ name sender actor behaviour message messages taking room. put s.units (made_by name actor.turns) (new_unit (Some name) behaviour.body (actor.state ++ message)) is (new name actor taking.there);
  }
    where
      new : (name : Name) (actor : ActorState) → named name s.actors ≡ Some actor → ¬ (f ≡ made_by name actor.turns)
      new name actor there same = at (named f s.units) refl
        where
          at : (found : Option UnitState) → named f s.units ≡ found → ⊥
          at None none = missing none
          at (Some u) is_there =
              let fewer = made.fresh name actor.turns f u.made actor.turns [] (OfActor actor there refl) (OfUnit u is_there refl) same in
              let no : ⊥ = omega arith in no

pub value-stays : (setup : Setup) (s t : State) (entry : Entry) → IsMade s → step setup s entry ≡ Some t → (f : Name) (v : Value) → value_of s f ≡ Some v → value_of t f ≡ Some v
value-stays setup s t entry made stepped f v is = step-cases setup s (Kept setup s made f v is) entry t (step-rows setup s made f v is) stepped

pub values_stay : (setup : Setup) → IsWellFormed setup.program → ValuesStay setup
values_stay setup formed entries s t entry is stepped = value-stays setup s t entry (replay-sound setup formed transactions-keep entries s is).made stepped
