use Rattle.std.proofs.Common.{◌≡◌, ap, Some}
use Rattle.std.specs.Option.{option_copied_mut}
use Rattle.serial_units.specs.declared.unit.Unit.{Unit}
use Rattle.value_core.proofs.NameMaps.{found_named, none_named, changed}
use Rattle.serial_units.proofs.Unfinished.{written_finished, finished_nowhere}
use Rattle.serial_units.proofs.units.finish.Goals as goal

pub returns-in-Some-clause-changed : goal.returns-in-Some-clause-changed
returns-in-Some-clause-changed c = changed c.args.name.now c.args.units.now (c.get_mut.follows.lender c.finish.new.self) c.finish.new.self c.in-Some.unit.now (λ (u v : Unit). v ≡ record u { value = Some c.args.value })
    (c.get_mut.follows.holds c.finish.new.self)
    (found_named c.args.name.now c.args.units.now (option_copied_mut c.get_mut.result) _ c.get_mut.ensures.value (ap option_copied_mut c.in-Some.is)) c.finish.ensures

pub returns-in-Some-clause-finished : goal.returns-in-Some-clause-finished
returns-in-Some-clause-finished c = written_finished c.args.name.now c.args.units.now (c.get_mut.follows.lender c.finish.new.self) c.finish.new.self c.in-Some.unit.now c.args.value (c.get_mut.follows.holds c.finish.new.self)
    (found_named c.args.name.now c.args.units.now (option_copied_mut c.get_mut.result) _ c.get_mut.ensures.value (ap option_copied_mut c.in-Some.is)) c.finish.ensures

pub returns-in-None-clause-finished : goal.returns-in-None-clause-finished
returns-in-None-clause-finished c = finished_nowhere c.args.name.now c.args.units.now c.get_mut.follows.lender-at-none c.get_mut.follows.holds-at-none
    (none_named c.args.name.now c.args.units.now (option_copied_mut c.get_mut.result) c.get_mut.ensures.value (ap option_copied_mut c.in-None.is))
