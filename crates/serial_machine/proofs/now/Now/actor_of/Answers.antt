use Rattle.std.proofs.Common.{◌∙◌, ap}
use Rattle.std.specs.Option.{option_copied}
use Rattle.serial_model.specs.State.{UnitState}
use Rattle.serial_units.proofs.UnitViews.{same_unit, no_unit}
use Rattle.serial_machine.proofs.now.Now.actor_of.Goals as goal

pub returns-in-Some : goal.returns-in-Some
returns-in-Some c = λ unit there. c.as_ref.ensures.value ∙ ap (λ (u : UnitState). u.actor)
    (same_unit c.args.name.now c.args.self.now.units c.in-Some.unit.now unit (option_copied c.get.result) c.get.ensures (ap option_copied c.in-Some.is) there)

pub returns-in-None : goal.returns-in-None
returns-in-None c = λ unit there. absurd (no_unit c.args.name.now c.args.self.now.units unit (option_copied c.get.result) c.get.ensures (ap option_copied c.in-None.is) there)
