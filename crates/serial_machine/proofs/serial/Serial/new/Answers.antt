use Rattle.std.proofs.Common.{subst, []}
use Rattle.std.specs.Arc.{arc_value}
use Rattle.core_syntax.specs.Table.{Table}
use Rattle.core_syntax.specs.WellFormed.{IsWellFormed}
use Rattle.serial_model.specs.State.{opening}
use Rattle.serial_machine.specs.Now.{IsNow}
use Rattle.serial_machine.proofs.SerialRuns.{opens_there}
use Rattle.serial_machine.proofs.serial.Serial.new.Goals as goal

pub invariant_of-result : goal.invariant_of-result
invariant_of-result c =
    opens_there (record { program = arc_value c.args.program; limits = c.args.limits }) c.in_ok-now.now c.new.result.items c.new-2.result.items
    (subst IsWellFormed c.deref.ensures c.in_ok-now.ensures.well_formed)
    (subst (λ (p : Table). IsNow (record { program = p; limits = c.args.limits }) [] c.in_ok-now.now (opening (record { program = p; limits = c.args.limits }))) c.deref.ensures c.in_ok-now.ensures.opening)
    c.in_ok-now.ensures.text c.new.ensures c.new-2.ensures.items
