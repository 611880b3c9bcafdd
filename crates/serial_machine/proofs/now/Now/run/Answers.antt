use Rattle.std.proofs.Common.{refl, subst, Option}
use Rattle.std.proofs.lemmas.Result.{IfOk-weaker}
use Rattle.serial_model.specs.declared.halt.Halt.{Halt}
use Rattle.serial_units.specs.Units.{IsRun}
use Rattle.serial_machine.proofs.UnitSteps.{ran}
use Rattle.serial_units.proofs.UnitRuns.{names_there}
use Rattle.serial_machine.proofs.now.Now.run.Goals as goal

pub follow-requires-clause-there : goal.follow-requires-clause-there
follow-requires-clause-there c =
    let to = subst (λ (o : Option Halt). IsRun (record { program = c.args.program.now; limits = c.args.limits }) c.args.name.now c.args.self.now.units c.go_on.new.self o) c.in-Some.is c.in_ok-halt.ensures in
    names_there (record { program = c.args.program.now; limits = c.args.limits }) to.unit c.in-Some.halt c.requires.well_formed to.stops

pub returns-in-Some : goal.returns-in-Some
returns-in-Some c = IfOk-weaker c.follow.result _ _ (λ done tries.
    ran (record { program = c.args.program.now; limits = c.args.limits }) c.args.name.now c.args.self.now (record c.args.self.now { units = c.go_on.new.self }) c.follow.new.self refl c.in-Some.halt done
    (subst (λ (o : Option Halt). IsRun (record { program = c.args.program.now; limits = c.args.limits }) c.args.name.now c.args.self.now.units c.go_on.new.self o) c.in-Some.is c.in_ok-halt.ensures)
    tries) c.follow.ensures
