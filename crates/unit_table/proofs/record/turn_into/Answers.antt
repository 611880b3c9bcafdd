use Rattle.std.proofs.Common.{◌≡◌, ap}
use Rattle.std.specs.Option.{option_copied_mut, option_map}
use Rattle.unit_table.specs.Piece.{becoming}
use Rattle.unit_table.specs.declared.record.Record.{Record}
use Rattle.value_core.proofs.NameMaps.{changed, found_named}
use Rattle.unit_table.proofs.record.turn_into.Goals as goal

pub returns-in-Some : goal.returns-in-Some
returns-in-Some c = changed c.args.name.now c.args.records.now (c.get_mut.follows.lender c.turn_into.new.self) c.turn_into.new.self c.in-Some.place.now (λ (r s : Record). s ≡ record r { piece = option_map (becoming c.args.next) r.piece })
    (c.get_mut.follows.holds c.turn_into.new.self)
    (found_named c.args.name.now c.args.records.now (option_copied_mut c.get_mut.result) _ c.get_mut.ensures.value (ap option_copied_mut c.in-Some.is)) c.turn_into.ensures
