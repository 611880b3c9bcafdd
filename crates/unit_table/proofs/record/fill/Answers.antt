use Rattle.std.proofs.Common.{◌≡◌, ap, Some}
use Rattle.std.specs.Option.{option_copied_mut}
use Rattle.unit_table.specs.declared.record.Record.{Record}
use Rattle.value_core.proofs.NameMaps.{changed, found_named}
use Rattle.unit_table.proofs.record.fill.Goals as goal

pub returns-in-Some : goal.returns-in-Some
returns-in-Some c = changed c.args.name.now c.args.records.now (c.get_mut.follows.lender c.put.new.self) c.put.new.self c.in-Some.place.now (λ (r s : Record). s ≡ record r { piece = Some c.args.piece })
    (c.get_mut.follows.holds c.put.new.self)
    (found_named c.args.name.now c.args.records.now (option_copied_mut c.get_mut.result) _ c.get_mut.ensures.value (ap option_copied_mut c.in-Some.is)) c.put.ensures
