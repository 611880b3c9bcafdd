use Rattle.std.proofs.Common.{subst}
use Rattle.std.specs.Prelude.{OnOk}
use Rattle.value_core.specs.Named.{Named, IsChanged}
use Rattle.serial_units.specs.declared.unit.Unit.{Unit}
use Rattle.serial_units.proofs.UnitViews.{IsSettled}
use Rattle.serial_units.proofs.units.Units.settle.Goals as goal

pub returns : goal.returns
returns c = subst (λ (us : Named Unit). OnOk c.settle.result (IsChanged c.args.name.now us c.settle.new.units.entries (IsSettled c.args.made c.args.becomes c.args.value))) c.self.view_is c.settle.ensures.settled
