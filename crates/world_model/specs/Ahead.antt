-- Running ahead: effects that are held, and the answers that are known before they are done.
use Rattle.std.specs.Prelude.{List, None, Option, Some, [], ◌∷◌, ◌≡◌}
use Rattle.value_core.specs.Named.{Name}
use Rattle.value_core.specs.Place.{Spot}
use Rattle.serial_model.specs.Ahead.{answer_ahead}
use Rattle.serial_model.specs.State.{Setup, UnitState}
use Rattle.serial_model.specs.Step.{answered, next_made, next_of, unit_after}
use Rattle.serial_model.specs.declared.answer.Answer.TheVariants as answer
use Rattle.serial_model.specs.declared.answer.Answer.{Answer}
use Rattle.serial_model.specs.declared.halt.Halt.TheVariants as halt
use Rattle.serial_model.specs.declared.request.Request.{Request}

-- the unit with that answer more, where there is one and it is no fault
abbrev pub after_answer : UnitState → Option Answer → Option UnitState
after_answer unit None = None
after_answer unit (Some (answer.Value v)) = Some (answered unit v)
after_answer unit (Some (answer.Fault failed)) = None

-- The unit after an effect that is held: its answer is known ahead. None where it must wait.
abbrev pub ahead : Name → UnitState → Request → Option UnitState
ahead u unit asked = after_answer (unit_after unit asked) (answer_ahead unit.actor (next_made u unit) asked)

-- the unit asks for the effect, which is held, and stands there afterwards
pub record IsHeld (setup : Setup) (u : Name) (unit : UnitState) (r : Request) (at : Spot) (after : UnitState) : Type 0 where
  pub asks : next_of setup unit ≡ halt.Ask r at
  pub gives : ahead u unit r ≡ Some after
  pub unfinished : unit.finished ≡ None

-- from there, by these held effects, to where the machine stands now
abbrev pub RunsAhead : Setup → Name → UnitState → List Request → UnitState → Type 0
RunsAhead setup u unit [] now = unit ≡ now
RunsAhead setup u unit (r ∷ rs) now = (at : Spot) × (after : UnitState) × IsHeld setup u unit r at after × RunsAhead setup u after rs now
