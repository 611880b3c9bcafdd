use Rattle.std.proofs.Common.{sym, subst}
use Rattle.serial_units.specs.Units.{AreUnits}
use Rattle.serial_units.proofs.units.Units.go_on.Goals as goal

pub go_on-requires : goal.go_on-requires
go_on-requires c = subst (AreUnits (record { program = c.args.program.now; limits = c.args.limits })) (sym c.self.view_is) c.requires
