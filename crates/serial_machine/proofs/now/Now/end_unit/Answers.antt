use Rattle.std.proofs.Common.{refl}
use Rattle.std.proofs.lemmas.Result.{on_ok_weaker}
use Rattle.serial_machine.proofs.UnitSteps.{finished_unit}
use Rattle.serial_machine.proofs.now.Now.end_unit.Goals as goal

pub returns : goal.returns
returns c = on_ok_weaker c.release.result (λ released. λ setup.
    finished_unit setup c.args.name.now c.args.self.now (record c.args.self.now { units = c.finish.new.self }) c.release.new.self c.args.value c.finish.ensures refl (released setup)) c.release.ensures.released
