use Rattle.std.proofs.Common.{ap}
use Rattle.std.specs.Option.{option_copied_mut}
use Rattle.std.proofs.lemmas.Result.{IfOk-weaker}
use Rattle.value_core.proofs.NameMaps.{found_named, none_named}
use Rattle.serial_units.proofs.UnitRuns.{run_done, run_nowhere}
use Rattle.serial_units.proofs.Unfinished.{written_unfinished, nothing_unfinished}
use Rattle.serial_units.proofs.units.go_on.Goals as goal

pub go_on-requires : goal.go_on-requires
go_on-requires c = c.requires c.args.name.now c.in-Some.unit.now
    (found_named c.args.name.now c.args.units.now (option_copied_mut c.get_mut.result) _ c.get_mut.ensures.value (ap option_copied_mut c.in-Some.is))

pub returns-in-Some-clause-run : goal.returns-in-Some-clause-run
returns-in-Some-clause-run c = IfOk-weaker c.go_on.result _ _ (λ stop gone.
    run_done (record { program = c.args.program.now; limits = c.args.limits }) c.args.name.now c.args.units.now (c.get_mut.follows.lender c.go_on.new.self) c.go_on.new.self c.in-Some.unit.now stop (c.get_mut.follows.holds c.go_on.new.self)
    (found_named c.args.name.now c.args.units.now (option_copied_mut c.get_mut.result) _ c.get_mut.ensures.value (ap option_copied_mut c.in-Some.is)) c.requires gone) c.go_on.ensures.gone

pub returns-in-None-clause-run : goal.returns-in-None-clause-run
returns-in-None-clause-run c = run_nowhere (record { program = c.args.program.now; limits = c.args.limits }) c.args.name.now c.args.units.now c.get_mut.follows.lender-at-none c.get_mut.follows.holds-at-none
    (none_named c.args.name.now c.args.units.now (option_copied_mut c.get_mut.result) c.get_mut.ensures.value (ap option_copied_mut c.in-None.is)) c.requires

pub returns-in-Some-clause-unfinished : goal.returns-in-Some-clause-unfinished
returns-in-Some-clause-unfinished c =
    written_unfinished c.args.name.now c.args.units.now (c.get_mut.follows.lender c.go_on.new.self) c.go_on.new.self c.in-Some.unit.now (c.get_mut.follows.holds c.go_on.new.self)
    (found_named c.args.name.now c.args.units.now (option_copied_mut c.get_mut.result) _ c.get_mut.ensures.value (ap option_copied_mut c.in-Some.is)) c.go_on.ensures.value

pub returns-in-None-clause-unfinished : goal.returns-in-None-clause-unfinished
returns-in-None-clause-unfinished c = nothing_unfinished c.args.units.now c.get_mut.follows.lender-at-none c.get_mut.follows.holds-at-none
