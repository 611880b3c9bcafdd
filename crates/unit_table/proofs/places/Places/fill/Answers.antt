use Rattle.std.proofs.Common.{◌∙◌, IsSome, ap, refl, sym, subst}
use Rattle.unit_table.specs.Board.{name_in}
use Rattle.unit_table.specs.Keeping.{board_of}
use Rattle.unit_table.specs.Piece.{says_ready}
use Rattle.unit_table.proofs.Noting.{filled_claims, filled_keeps, filled_places, filled_put, filled_slots, ticket_called, ticket_room, ticket_there}
use Rattle.unit_table.proofs.places.Places.fill.Goals as goal

pub note-requires-clause-there : goal.note-requires-clause-there
note-requires-clause-there c = ticket_there (board_of c.args.self.now) c.args.self.now.waits c.requires.kept c.requires.place.name c.args.ticket c.requires.place.there

pub note-requires-clause-slot : goal.note-requires-clause-slot
note-requires-clause-slot c = ticket_room (board_of c.args.self.now) c.args.self.now.waits c.requires.kept c.requires.place.name c.args.ticket c.requires.place.there

pub fill_slot-requires : goal.fill_slot-requires
fill_slot-requires c =
    subst (λ o. IsSome o) (sym (ap (λ (v : _). name_in v.items c.args.ticket.slot) c.note.ensures.names ∙ ticket_called (board_of c.args.self.now) c.args.self.now.waits c.requires.kept c.requires.place.name c.args.ticket c.requires.place.there)) refl

pub returns-clause-kept : goal.returns-clause-kept
returns-clause-kept c = filled_keeps c.args.self.now c.note.new.self c.fill_slot.new.records.entries c.args.ticket c.args.piece c.is_ready-is_ready.result c.requires.kept c.requires.place c.requires.idle c.note.ensures (c.is_ready-is_ready.ensures ∙ ap says_ready c.mark.ensures) c.fill_slot.ensures

pub returns-clause-claims : goal.returns-clause-claims
returns-clause-claims c = filled_claims c.args.self.now c.note.new.self c.fill_slot.new.records.entries c.args.ticket c.args.piece c.is_ready-is_ready.result c.requires.kept c.requires.place c.requires.idle c.note.ensures (c.is_ready-is_ready.ensures ∙ ap says_ready c.mark.ensures) c.fill_slot.ensures

pub returns-clause-put : goal.returns-clause-put
returns-clause-put c = filled_put c.args.self.now c.note.new.self c.fill_slot.new.records.entries c.args.ticket c.args.piece c.is_ready-is_ready.result c.requires.kept c.requires.place c.requires.idle c.note.ensures (c.is_ready-is_ready.ensures ∙ ap says_ready c.mark.ensures) c.fill_slot.ensures

pub returns-clause-places : goal.returns-clause-places
returns-clause-places c = filled_places c.args.self.now c.note.new.self c.fill_slot.new.records.entries c.args.ticket c.args.piece c.is_ready-is_ready.result c.requires.kept c.requires.place c.requires.idle c.note.ensures (c.is_ready-is_ready.ensures ∙ ap says_ready c.mark.ensures) c.fill_slot.ensures

pub returns-clause-slots : goal.returns-clause-slots
returns-clause-slots c = filled_slots c.args.self.now c.note.new.self c.fill_slot.new.records.entries c.args.ticket c.args.piece c.is_ready-is_ready.result c.requires.kept c.requires.place c.requires.idle c.note.ensures (c.is_ready-is_ready.ensures ∙ ap says_ready c.mark.ensures) c.fill_slot.ensures
