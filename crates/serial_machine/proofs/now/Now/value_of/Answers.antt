use Rattle.std.proofs.Common.{◌∙◌, sym, ap}
use Rattle.std.specs.Option.{option_copied, option_and_then}
use Rattle.serial_units.specs.declared.unit.Unit.{Unit}
use Rattle.serial_units.proofs.UnitViews.{finished_of}
use Rattle.serial_machine.proofs.now.Now.value_of.Goals as goal

pub returns-in-Some : goal.returns-in-Some
returns-in-Some c = c.as_ref.ensures.value ∙ ap (option_and_then (λ (u : Unit). u.value)) (sym (ap option_copied c.in-Some.is))
    ∙ finished_of c.args.name.now c.args.self.now.units (option_copied c.get.result) c.get.ensures

pub returns-in-None : goal.returns-in-None
returns-in-None c = ap (option_and_then (λ (u : Unit). u.value)) (sym (ap option_copied c.in-None.is))
    ∙ finished_of c.args.name.now c.args.self.now.units (option_copied c.get.result) c.get.ensures
