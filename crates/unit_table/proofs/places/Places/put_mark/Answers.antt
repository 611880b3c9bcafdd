use Rattle.std.proofs.Common.{◌<◌, length, sym, subst}
use Rattle.std.specs.Option.{IfSome}
use Rattle.unit_table.specs.Keeping.{board_of}
use Rattle.unit_table.specs.Piece.{awaited}
use Rattle.unit_table.proofs.Noting.{marked_keeps, marked_places, marked_put, marked_slots, marked_ticket, marked_unlent, need_room, ticket_room, ticket_there}
use Rattle.unit_table.proofs.places.Places.put_mark.Goals as goal

pub note-requires-clause-there : goal.note-requires-clause-there
note-requires-clause-there c = ticket_there (board_of c.args.self.now) c.args.self.now.waits c.requires.kept c.args.name.now c.in-Some.ticket (sym c.in-Some.ensures.ticket)

pub note-requires-clause-slot : goal.note-requires-clause-slot
note-requires-clause-slot c = ticket_room (board_of c.args.self.now) c.args.self.now.waits c.requires.kept c.args.name.now c.in-Some.ticket (sym c.in-Some.ensures.ticket)

pub note-requires-clause-need : goal.note-requires-clause-need
note-requires-clause-need c =
    subst (λ o. IfSome o (λ n. n < length c.args.self.now.waits)) (sym c.need_of-need.ensures)
    (need_room (board_of c.args.self.now) c.args.self.now.waits c.requires.kept c.args.name.now c.in-Some.ticket (sym c.in-Some.ensures.ticket) (awaited c.args.mark) c.requires.can_wait)

pub returns-clause-kept : goal.returns-clause-kept
returns-clause-kept c = marked_keeps c.args.self.now c.note.new.self c.put_mark.new.records c.args.name.now c.in-Some.ticket c.args.mark c.is_ready-is_ready.result c.need_of-need.result c.requires.kept (sym c.in-Some.ensures.ticket) c.requires.there c.requires.can_wait c.note.ensures c.is_ready-is_ready.ensures c.need_of-need.ensures c.put_mark.ensures.changed

pub returns-clause-put : goal.returns-clause-put
returns-clause-put c = marked_put c.args.self.now c.note.new.self c.put_mark.new.records c.args.name.now c.in-Some.ticket c.args.mark c.is_ready-is_ready.result c.need_of-need.result c.requires.kept (sym c.in-Some.ensures.ticket) c.requires.there c.requires.can_wait c.note.ensures c.is_ready-is_ready.ensures c.need_of-need.ensures c.put_mark.ensures.changed

pub returns-clause-claims : goal.returns-clause-claims
returns-clause-claims c = marked_unlent c.args.self.now c.note.new.self c.put_mark.new.records c.args.name.now c.in-Some.ticket c.args.mark c.is_ready-is_ready.result c.need_of-need.result c.requires.kept (sym c.in-Some.ensures.ticket) c.requires.there c.requires.can_wait c.note.ensures c.is_ready-is_ready.ensures c.need_of-need.ensures c.put_mark.ensures.changed

pub returns-clause-ticket : goal.returns-clause-ticket
returns-clause-ticket c = marked_ticket c.args.self.now c.note.new.self c.put_mark.new.records c.args.name.now c.in-Some.ticket c.args.mark c.is_ready-is_ready.result c.need_of-need.result c.requires.kept (sym c.in-Some.ensures.ticket) c.requires.there c.requires.can_wait c.note.ensures c.is_ready-is_ready.ensures c.need_of-need.ensures c.put_mark.ensures.changed

pub returns-clause-places : goal.returns-clause-places
returns-clause-places c = marked_places c.args.self.now c.note.new.self c.put_mark.new.records c.args.name.now c.in-Some.ticket c.args.mark c.is_ready-is_ready.result c.need_of-need.result c.requires.kept (sym c.in-Some.ensures.ticket) c.requires.there c.requires.can_wait c.note.ensures c.is_ready-is_ready.ensures c.need_of-need.ensures c.put_mark.ensures.changed

pub returns-clause-slots : goal.returns-clause-slots
returns-clause-slots c = marked_slots c.args.self.now c.note.new.self c.put_mark.new.records c.args.name.now c.in-Some.ticket c.args.mark c.is_ready-is_ready.result c.need_of-need.result c.requires.kept (sym c.in-Some.ensures.ticket) c.requires.there c.requires.can_wait c.note.ensures c.is_ready-is_ready.ensures c.need_of-need.ensures c.put_mark.ensures.changed
