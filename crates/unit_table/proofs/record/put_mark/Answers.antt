use Rattle.std.proofs.Common.{ap}
use Rattle.std.specs.Option.{option_copied_mut}
use Rattle.unit_table.specs.Keeping.{IsMarkedAs}
use Rattle.value_core.proofs.NameMaps.{changed, found_named}
use Rattle.unit_table.proofs.record.put_mark.Goals as goal

pub returns-in-Some-clause-changed : goal.returns-in-Some-clause-changed
returns-in-Some-clause-changed c = changed c.args.name.now c.args.records.now (c.get_mut.follows.lender c.put_mark.new.self) c.put_mark.new.self c.in-Some.place.now (IsMarkedAs c.args.mark)
    (c.get_mut.follows.holds c.put_mark.new.self)
    (found_named c.args.name.now c.args.records.now (option_copied_mut c.get_mut.result) _ c.get_mut.ensures.value (ap option_copied_mut c.in-Some.is)) c.put_mark.ensures
