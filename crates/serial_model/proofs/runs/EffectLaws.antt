-- What the effects of a transaction, and the end of a unit, leave as it was.
use Rattle.std.proofs.Common.{◌≡◌, ◌∙◌, List, [], ◌∷◌, refl}
use Rattle.std.specs.Prelude.{Option, None, Some}
use Rattle.serial_model.specs.declared.actor_state.ActorState.{ActorState}
use Rattle.serial_model.specs.declared.effect.Effect.{Effect}
use Rattle.serial_model.specs.declared.effect.What.{What}
use Rattle.serial_model.specs.declared.effect.What.TheVariants as what
use Rattle.value_core.specs.Named.{Name, named}
use Rattle.serial_model.specs.State.{Becoming, UnitState, State}
use Rattle.serial_model.specs.Step.{takes_effect, take_effects, released}

-- the unit is the same but for what its actor becomes
pub record IsSameUnit (unit after : UnitState) : Type 0 where
  pub actor : after.actor ≡ unit.actor
  pub body : after.body ≡ unit.body
  pub values : after.values ≡ unit.values
  pub answers : after.answers ≡ unit.answers
  pub made : after.made ≡ unit.made
  pub finished : after.finished ≡ unit.finished

-- the state is the same but for its bytes, its actors and its queues
pub record IsSameBase (s t : State) : Type 0 where
  pub refs : t.refs ≡ s.refs
  pub units : t.units ≡ s.units
  pub made : t.made ≡ s.made
  pub end : t.end ≡ s.end

pub record EffectsKeep (s : State) (before : UnitState) (done : State × UnitState) : Type 0 where
  pub base : IsSameBase s done.0
  pub unit : IsSameUnit before done.1

keep_none : (s : State) (unit : UnitState) → EffectsKeep s unit (s, unit)
keep_none s unit = record {
  base = record { refs = refl; units = refl; made = refl; end = refl };
  unit = record { actor = refl; body = refl; values = refl; answers = refl; made = refl; finished = refl };
}

keep_both : (s : State) (unit : UnitState) (mid done : State × UnitState) → EffectsKeep s unit mid → EffectsKeep mid.0 mid.1 done → EffectsKeep s unit done
keep_both s unit mid done first rest = record {
  base = record {
    refs = rest.base.refs ∙ first.base.refs;
    units = rest.base.units ∙ first.base.units;
    made = rest.base.made ∙ first.base.made;
    end = rest.base.end ∙ first.base.end;
  };
  unit = record {
    actor = rest.unit.actor ∙ first.unit.actor;
    body = rest.unit.body ∙ first.unit.body;
    values = rest.unit.values ∙ first.unit.values;
    answers = rest.unit.answers ∙ first.unit.answers;
    made = rest.unit.made ∙ first.unit.made;
    finished = rest.unit.finished ∙ first.unit.finished;
  };
}

keep_one : (name : Name) (s : State) (unit : UnitState) (what : What) → EffectsKeep s unit (takes_effect name s unit what)
keep_one name s unit (what.Bytes text) = record {
  base = record { refs = refl; units = refl; made = refl; end = refl };
  unit = record { actor = refl; body = refl; values = refl; answers = refl; made = refl; finished = refl };
}
keep_one name s unit (what.Send actor message) = record {
  base = record { refs = refl; units = refl; made = refl; end = refl };
  unit = record { actor = refl; body = refl; values = refl; answers = refl; made = refl; finished = refl };
}
keep_one name s unit (what.Spawn actor behaviour state) = record {
  base = record { refs = refl; units = refl; made = refl; end = refl };
  unit = record { actor = refl; body = refl; values = refl; answers = refl; made = refl; finished = refl };
}
keep_one name s unit (what.Become behaviour state) = record {
  base = record { refs = refl; units = refl; made = refl; end = refl };
  unit = record { actor = refl; body = refl; values = refl; answers = refl; made = refl; finished = refl };
}

-- effects change no ref and no unit but for what an actor becomes
pub effects-keep : (name : Name) (effects : List Effect) (s : State) (unit : UnitState) → EffectsKeep s unit (take_effects name effects s unit)
effects-keep name [] s unit = keep_none s unit
effects-keep name (effect ∷ effects) s unit =
    let next = takes_effect name s unit effect.what in
    keep_both s unit next (take_effects name effects next.0 next.1) (keep_one name s unit effect.what) (effects-keep name effects next.0 next.1)

-- the end of a turn changes one actor and nothing else
pub record IsReleased (s t : State) : Type 0 where
  pub refs : t.refs ≡ s.refs
  pub units : t.units ≡ s.units
  pub queues : t.queues ≡ s.queues
  pub made : t.made ≡ s.made
  pub end : t.end ≡ s.end

pub released-keeps : (actor : Option Name) (s : State) (becomes : Option Becoming) → IsReleased s (released actor s becomes)
released-keeps None s becomes = record { refs = refl; units = refl; queues = refl; made = refl; end = refl }
released-keeps (Some name) s becomes = on (named name s.actors) refl
  where
    on : (found : Option ActorState) → named name s.actors ≡ found → IsReleased s (released (Some name) s becomes)
    on None is = rw is (record { refs = refl; units = refl; queues = refl; made = refl; end = refl })
    on (Some actor) is = rw is (record { refs = refl; units = refl; queues = refl; made = refl; end = refl })
