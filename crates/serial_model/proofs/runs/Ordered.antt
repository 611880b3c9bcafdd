-- The names of a state's units and queues rise.
use Rattle.std.proofs.Common.{◌≡◌, List, [], ◌∷◌, ◌++◌, sym, subst}
use Rattle.std.specs.Prelude.{None, Some}
use Rattle.value_core.specs.declared.value.Value.{Value}
use Rattle.value_core.specs.declared.value.Value.TheVariants as value
use Rattle.serial_model.specs.declared.effect.Effect.{Effect}
use Rattle.serial_model.specs.declared.effect.What.{What}
use Rattle.serial_model.specs.declared.effect.What.TheVariants as what
use Rattle.serial_model.specs.declared.entry.Entry.{Entry}
use Rattle.value_core.specs.Named.{Name, Named, named, with_named, over, made_by, Rises}
use Rattle.serial_model.specs.State.{Setup, UnitState, Queues, State, opening, new_unit}
use Rattle.serial_model.specs.Step.{step, answered, with_made, with_unit, next_made, becoming, with_queue, queue_of, takes_effect, take_effects}
use Rattle.std.specs.Option.{unwrap_or}
use Rattle.serial_model.proofs.runs.EffectLaws.{effects-keep, released-keeps}
use Rattle.value_core.proofs.NamedLaws.{rises-with_named}
use Rattle.serial_model.proofs.runs.StepCases.{IsRunning, RunRows, StepRows, step-cases}

pub record AreOrdered (units : Named UnitState) (queues : Queues) : Type 0 where
  pub unit_names : Rises units
  pub queue_names : Rises queues

abbrev pub IsOrdered : State → Type 0
IsOrdered s = AreOrdered s.units s.queues

pub opening-ordered : (setup : Setup) → IsOrdered (opening setup)
opening-ordered setup = record { unit_names = tt; queue_names = tt }

queue-rises : (queues : Queues) (actor sender : Name) (messages : List (List Value)) → Rises queues → Rises (with_queue queues actor sender messages)
queue-rises queues actor sender messages rises = rises-with_named actor (with_named (unwrap_or (named actor queues) []) sender messages) queues rises

effects-rise : (name : Name) (effects : List Effect) (s : State) (unit : UnitState) → Rises s.queues → Rises (take_effects name effects s unit).0.queues
effects-rise name [] s unit rises = rises
effects-rise name (effect ∷ effects) s unit rises =
    let next = takes_effect name s unit effect.what in effects-rise name effects next.0 next.1 (on effect.what)
  where
    on : (done : What) → Rises (takes_effect name s unit done).0.queues
    on (what.Bytes text) = rises
    on (what.Send actor message) = queue-rises s.queues actor name (queue_of s.queues actor name ++ message ∷ []) rises
    on (what.Spawn actor behaviour state) = rises
    on (what.Become behaviour state) = rises

module _ (setup : Setup) (s : State) (ordered : IsOrdered s) where
  unit_put : (name : Name) (unit : UnitState) → AreOrdered (with_named s.units name unit) s.queues
  unit_put name unit = record { unit_names = rises-with_named name unit s.units ordered.unit_names; queue_names = ordered.queue_names }

  run_rows : (name : Name) (unit : UnitState) → IsRunning s name unit → RunRows setup s IsOrdered name unit
  run_rows name unit running = record {
    prints = λ text at asks. unit_put name (answered unit value.Nil);
    new_ref = λ v at asks. unit_put name (answered (with_made unit) (value.Ref (next_made name unit)));
    derefs = λ ref at v asks there. unit_put name (answered unit v);
    forks = λ body values at asks room. record {
      unit_names = rises-with_named name (answered (with_made unit) (value.Future (next_made name unit))) (with_named s.units (next_made name unit) (new_unit None body values))
          (rises-with_named (next_made name unit) (new_unit None body values) s.units ordered.unit_names);
      queue_names = ordered.queue_names;
    };
    joins = λ future at v asks found. unit_put name (answered unit v);
    commits = λ body values at result v asks is out held.
        let base = record s { refs = over result.log.writes s.refs } in
        let done = take_effects name result.log.effects base unit in
        let rises : Rises done.0.units = subst (λ units. Rises units) (sym (effects-keep name result.log.effects base unit).base.units) ordered.unit_names in
        record {
          unit_names = rises-with_named name (answered (with_made done.1) v) done.0.units rises;
          queue_names = effects-rise name result.log.effects base unit ordered.queue_names;
        };
    spawns = λ behaviour state at asks. unit_put name (answered (with_made unit) (value.Actor (next_made name unit)));
    sends = λ actor message at asks. record {
      unit_names = rises-with_named name (answered unit value.Nil) s.units ordered.unit_names;
      queue_names = queue-rises s.queues actor name (queue_of s.queues actor name ++ message ∷ []) ordered.queue_names;
    };
    becomes = λ behaviour state at actor asks of. unit_put name (answered (becoming unit behaviour state) value.Nil);
    selves = λ at actor asks of. unit_put name (answered unit (value.Actor actor));
    finishes = λ v is.
        let after = record unit { finished = Some v } in
        let same = released-keeps unit.actor (with_unit s name after) unit.becomes in
        record {
          unit_names = subst (λ units. Rises units) (sym same.units) (rises-with_named name after s.units ordered.unit_names);
          queue_names = subst (λ (queues : Queues). Rises queues) (sym same.queues) ordered.queue_names;
        };
  }

  step_rows : StepRows setup s IsOrdered
  step_rows = record {
    ends = λ going end. ordered;
    runs = run_rows;
    begins = λ name sender actor behaviour message messages taking room. record {
      unit_names = rises-with_named (made_by name actor.turns) (new_unit (Some name) behaviour.body (actor.state ++ message)) s.units ordered.unit_names;
      queue_names = queue-rises s.queues name sender messages ordered.queue_names;
    };
  }

-- each step leaves the names in order
pub step-ordered : (setup : Setup) (s t : State) (entry : Entry) → IsOrdered s → step setup s entry ≡ Some t → IsOrdered t
step-ordered setup s t entry ordered stepped = step-cases setup s IsOrdered entry t (step_rows setup s ordered) stepped
