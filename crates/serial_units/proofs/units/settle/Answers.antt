use Rattle.std.proofs.Common.{ap}
use Rattle.std.specs.Option.{option_copied_mut}
use Rattle.std.proofs.lemmas.Result.{on_ok_weaker}
use Rattle.value_core.proofs.NameMaps.{found_named, changed}
use Rattle.serial_units.proofs.Unfinished.{written_unfinished}
use Rattle.serial_units.proofs.units.settle.Goals as goal

pub returns-in-Some-clause-settled : goal.returns-in-Some-clause-settled
returns-in-Some-clause-settled c = on_ok_weaker c.settle.result (λ done.
    changed c.args.name.now c.args.units.now (c.get_mut.follows.lender c.settle.new.self) c.settle.new.self _ _ (c.get_mut.follows.holds c.settle.new.self)
    (found_named c.args.name.now c.args.units.now (option_copied_mut c.get_mut.result) _ c.get_mut.ensures.value (ap option_copied_mut c.in-Some.is)) (done, c.settle.ensures.keeps)) c.settle.ensures.unit

pub returns-in-Some-clause-unfinished : goal.returns-in-Some-clause-unfinished
returns-in-Some-clause-unfinished c =
    written_unfinished c.args.name.now c.args.units.now (c.get_mut.follows.lender c.settle.new.self) c.settle.new.self c.in-Some.unit.now (c.get_mut.follows.holds c.settle.new.self)
    (found_named c.args.name.now c.args.units.now (option_copied_mut c.get_mut.result) _ c.get_mut.ensures.value (ap option_copied_mut c.in-Some.is)) c.settle.ensures.value
