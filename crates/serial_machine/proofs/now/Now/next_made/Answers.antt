use Rattle.std.proofs.Common.{◌∙◌, ap}
use Rattle.std.specs.Option.{option_copied}
use Rattle.std.proofs.lemmas.Result.{IfOk-weaker}
use Rattle.value_core.specs.Named.{made_by}
use Rattle.serial_model.specs.State.{UnitState}
use Rattle.serial_units.proofs.UnitViews.{same_unit}
use Rattle.serial_machine.proofs.now.Now.next_made.Goals as goal

pub returns-in-Some-clause-value : goal.returns-in-Some-clause-value
returns-in-Some-clause-value c = IfOk-weaker c.child.result _ _ (λ made is unit there. is ∙ ap (λ (u : UnitState). made_by c.args.name.now u.made)
    (same_unit c.args.name.now c.args.self.now.units c.in-Some.unit.now unit (option_copied c.get.result) c.get.ensures (ap option_copied c.in-Some.is) there)) c.child.ensures
