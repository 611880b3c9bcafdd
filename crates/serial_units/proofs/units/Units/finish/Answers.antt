use Rattle.std.proofs.Common.{◌≡◌, Some, subst}
use Rattle.value_core.specs.Named.{Named, IsChanged}
use Rattle.serial_units.specs.declared.unit.Unit.{Unit}
use Rattle.serial_units.specs.Units.{is_unfinished}
use Rattle.value_core.proofs.NameMarks.{just_without}
use Rattle.serial_units.proofs.units.Units.finish.Goals as goal

pub invariant_of-self : goal.invariant_of-self
invariant_of-self c =
    just_without is_unfinished c.args.name.now c.self.inside.all.entries c.finish.new.units.entries c.self.inside.unfinished c.remove.new.names c.self.invariant c.remove.ensures
    c.finish.ensures.finished.others c.finish.ensures.finished.finished

pub returns : goal.returns
returns c = subst (λ (us : Named Unit). IsChanged c.args.name.now us c.finish.new.units.entries (λ unit after. after ≡ record unit { value = Some c.args.value })) c.self.view_is c.finish.ensures.changed
