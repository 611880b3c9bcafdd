-- How units are kept.
use Rattle.std.specs.Prelude.{◌≡◌, ⊤, suc, Bool, false, not, is_some, if◌then◌else◌, Option, None, Some}
use Rattle.std.specs.Option.{option_map, option_or, IsSome}
use Rattle.value_core.specs.declared.value.Value.{Value}
use Rattle.value_core.specs.Named.{Name, Named, named, each_as, AgreeBut}
use Rattle.value_core.specs.NameSet.{holds_at}
use Rattle.serial_model.specs.State.{Setup, Becoming, UnitState}
use Rattle.serial_model.specs.Step.{answered, next_of}
use Rattle.serial_model.specs.declared.halt.Halt.{Halt}
use Rattle.eval_step.specs.Evaluation.{IsOf, IsAsk, IsAsking}
use Rattle.serial_units.specs.declared.unit.Becoming.{Becoming as KeptBecoming}
use Rattle.serial_units.specs.declared.unit.Unit.{Unit}

-- what is kept of an actor's next behaviour, as the meaning has it
abbrev pub becoming_of : KeptBecoming → Becoming
becoming_of b = record { behaviour = b.behaviour; state = b.state }

-- a kept unit, as the meaning has it
abbrev pub unit_of : Unit → UnitState
unit_of u = record {
  actor = u.actor;
  body = u.machine.body;
  values = u.machine.values;
  answers = u.machine.answers;
  made = u.made;
  becomes = option_map becoming_of u.becomes;
  finished = u.value;
}

-- the kept units, as the meaning has them
abbrev pub units_of : Named Unit → Named UnitState
units_of units = each_as unit_of units

-- the machine of a unit evaluates its body, outside a transaction, with the fuel of the limits
pub record IsUnit (setup : Setup) (unit : Unit) : Type 0 where
  pub inside : unit.machine.inside ≡ false
  pub fuel : unit.machine.fuel ≡ setup.limits.fuel
  pub of : IsOf setup.program unit.machine

-- each unit is one of that setup
abbrev pub AreUnits : Setup → Named Unit → Type 0
AreUnits setup units = (name : Name) (unit : Unit) → named name units ≡ Some unit → IsUnit setup unit

-- the unit of that name stands at a request
abbrev pub AsksAt : Name → Named Unit → Type 0
AsksAt name units = (unit : Unit) → named name units ≡ Some unit → IsAsking unit.machine

-- the unit has one thing made more, where that is said, becomes what is said, and is answered so
abbrev pub settled : Bool → Option KeptBecoming → UnitState → Value → UnitState
settled made becomes unit v =
    answered (record unit { made = if made then suc unit.made else unit.made; becomes = option_or (option_map becoming_of becomes) unit.becomes }) v

-- An unfinished unit goes on to what it does next, and its view stays; a finished one does nothing.
pub record IsGoneTo (setup : Setup) (old new : Unit) (stop : Halt) : Type 0 where
  pub stops : stop ≡ next_of setup (unit_of old)
  pub same : unit_of new ≡ unit_of old
  pub unit : IsUnit setup new
  pub asks : IsAsk stop → IsAsking new.machine

abbrev pub IsGone : Setup → Unit → Unit → Option Halt → Option Value → Type 0
IsGone setup old new (Some stop) None = IsGoneTo setup old new stop
IsGone setup old new None (Some v) = new ≡ old
IsGone setup old new _ _ = ⊥

-- The unit of that name, where it is there, goes on.
pub record IsRunTo (setup : Setup) (name : Name) (old new : Named Unit) (stop : Halt) : Type 0 where
  pub unit : Unit
  pub there : named name old ≡ Some unit
  pub unfinished : unit.value ≡ None
  pub stops : stop ≡ next_of setup (unit_of unit)
  pub same : units_of new ≡ units_of old
  pub units : AreUnits setup new
  pub asks : IsAsk stop → AsksAt name new

abbrev pub IsFinished : Option UnitState → Type 0
IsFinished None = ⊤
IsFinished (Some unit) = IsSome unit.finished

abbrev pub IsRun : Setup → Name → Named Unit → Named Unit → Option Halt → Type 0
IsRun setup name old new (Some stop) = IsRunTo setup name old new stop
IsRun setup name old new None = (units_of new ≡ units_of old) × AreUnits setup new × IsFinished (named name (units_of old))

-- a unit that is not finished
abbrev pub is_unfinished : Unit → Bool
is_unfinished unit = not (is_some unit.value)

-- the same units are unfinished
abbrev pub SameUnfinished : Named Unit → Named Unit → Type 0
SameUnfinished old new = (name : Name) → holds_at is_unfinished (named name new) ≡ holds_at is_unfinished (named name old)

-- the unit of that name is unfinished no more, and the others stay
pub record IsFinishedIn (name : Name) (old new : Named Unit) : Type 0 where
  pub finished : holds_at is_unfinished (named name new) ≡ false
  pub others : AgreeBut name old new
