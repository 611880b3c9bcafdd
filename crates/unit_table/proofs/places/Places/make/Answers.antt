use Rattle.std.proofs.Common.{◌∙◌, None, ap}
use Rattle.unit_table.specs.Keeping.{board_of}
use Rattle.unit_table.proofs.Sames.{made_claims, made_keeps, made_keeps_slots, made_pieces, made_places, claims_stay, made_ticket, makes_of, no_slot, same_keeps, same_keeps_slots, taken_out, undone}
use Rattle.value_core.specs.Named.{with_named}
use Rattle.unit_table.proofs.places.Places.make.Goals as goal

pub returns-in_err-ticket-clause-kept : goal.returns-in_err-ticket-clause-kept
returns-in_err-ticket-clause-kept c = same_keeps (board_of c.args.self.now) (board_of c.make_slot.new.self) c.args.self.now.waits c.make_slot.new.self.waits c.requires.kept (no_slot c.args.self.now c.make_slot.new.self c.requires.kept c.in_err-ticket.ensures.same)

pub returns-in-Ok-clause-kept : goal.returns-in-Ok-clause-kept
returns-in-Ok-clause-kept c = made_keeps (board_of c.args.self.now) (record { records = c.put_place.new.records.entries; names = c.make_slot.new.self.names.items; table = c.make_slot.new.self.table }) c.args.self.now.waits c.make_slot.new.self.waits c.args.name.now c.in_ok-ticket.ticket c.requires.kept (makes_of c.args.self.now c.make_slot.new.self c.put_place.new.records.entries c.args.name.now c.in_ok-ticket.ticket c.requires.new c.in_ok-ticket.ensures.made (c.in-Ok.ensures.put ∙ ap (λ n. with_named c.make_slot.new.self.records.entries n (record { ticket = c.in_ok-ticket.ticket; piece = None })) c.in_ok-key.ensures) c.claims_are_tied.ensures)

pub returns-in-Ok-clause-ticket : goal.returns-in-Ok-clause-ticket
returns-in-Ok-clause-ticket c = made_ticket (board_of c.args.self.now) (record { records = c.put_place.new.records.entries; names = c.make_slot.new.self.names.items; table = c.make_slot.new.self.table }) c.args.self.now.waits c.make_slot.new.self.waits c.args.name.now c.in_ok-ticket.ticket c.requires.kept (makes_of c.args.self.now c.make_slot.new.self c.put_place.new.records.entries c.args.name.now c.in_ok-ticket.ticket c.requires.new c.in_ok-ticket.ensures.made (c.in-Ok.ensures.put ∙ ap (λ n. with_named c.make_slot.new.self.records.entries n (record { ticket = c.in_ok-ticket.ticket; piece = None })) c.in_ok-key.ensures) c.claims_are_tied.ensures)

pub returns-in-Ok-clause-pieces : goal.returns-in-Ok-clause-pieces
returns-in-Ok-clause-pieces c = made_pieces (board_of c.args.self.now) (record { records = c.put_place.new.records.entries; names = c.make_slot.new.self.names.items; table = c.make_slot.new.self.table }) c.args.self.now.waits c.make_slot.new.self.waits c.args.name.now c.in_ok-ticket.ticket c.requires.kept (makes_of c.args.self.now c.make_slot.new.self c.put_place.new.records.entries c.args.name.now c.in_ok-ticket.ticket c.requires.new c.in_ok-ticket.ensures.made (c.in-Ok.ensures.put ∙ ap (λ n. with_named c.make_slot.new.self.records.entries n (record { ticket = c.in_ok-ticket.ticket; piece = None })) c.in_ok-key.ensures) c.claims_are_tied.ensures)

pub returns-in-Ok-clause-claims : goal.returns-in-Ok-clause-claims
returns-in-Ok-clause-claims c = made_claims (board_of c.args.self.now) (record { records = c.put_place.new.records.entries; names = c.make_slot.new.self.names.items; table = c.make_slot.new.self.table }) c.args.self.now.waits c.make_slot.new.self.waits c.args.name.now c.in_ok-ticket.ticket c.requires.kept (makes_of c.args.self.now c.make_slot.new.self c.put_place.new.records.entries c.args.name.now c.in_ok-ticket.ticket c.requires.new c.in_ok-ticket.ensures.made (c.in-Ok.ensures.put ∙ ap (λ n. with_named c.make_slot.new.self.records.entries n (record { ticket = c.in_ok-ticket.ticket; piece = None })) c.in_ok-key.ensures) c.claims_are_tied.ensures)

pub returns-in-Ok-clause-places : goal.returns-in-Ok-clause-places
returns-in-Ok-clause-places c = made_places (board_of c.args.self.now) (record { records = c.put_place.new.records.entries; names = c.make_slot.new.self.names.items; table = c.make_slot.new.self.table }) c.args.self.now.waits c.make_slot.new.self.waits c.args.name.now c.in_ok-ticket.ticket c.requires.kept (makes_of c.args.self.now c.make_slot.new.self c.put_place.new.records.entries c.args.name.now c.in_ok-ticket.ticket c.requires.new c.in_ok-ticket.ensures.made (c.in-Ok.ensures.put ∙ ap (λ n. with_named c.make_slot.new.self.records.entries n (record { ticket = c.in_ok-ticket.ticket; piece = None })) c.in_ok-key.ensures) c.claims_are_tied.ensures)

pub returns-in-Err-clause-kept : goal.returns-in-Err-clause-kept
returns-in-Err-clause-kept c =
    same_keeps (board_of c.args.self.now) (record { records = c.put_place.new.records.entries; names = c.make_slot.new.self.names.items; table = c.remove.new.self }) c.args.self.now.waits c.make_slot.new.self.waits c.requires.kept
    (undone c.args.self.now c.make_slot.new.self c.put_place.new.records.entries c.remove.new.self c.args.name.now c.in_ok-ticket.ticket c.requires.kept c.in_ok-ticket.ensures.made c.in-Err.ensures.same
    (taken_out c.make_slot.new.self.table.pieces c.remove.new.self.pieces c.in_ok-ticket.ticket c.remove.result c.in_ok-ticket.ensures.made.given.put.here c.remove.ensures.piece c.remove.ensures.gone)
    (claims_stay c.make_slot.new.self.table c.remove.new.self c.in_ok-ticket.ticket c.remove.result c.in_ok-ticket.ensures.made.given.put.here c.remove.ensures.piece c.remove.ensures.claims)
    c.claims_are_tied-in-Err.ensures)

pub returns-in_err-ticket-clause-slots : goal.returns-in_err-ticket-clause-slots
returns-in_err-ticket-clause-slots c = same_keeps_slots (board_of c.args.self.now) (board_of c.make_slot.new.self) c.args.self.now.waits c.make_slot.new.self.waits c.requires.kept (no_slot c.args.self.now c.make_slot.new.self c.requires.kept c.in_err-ticket.ensures.same)

pub returns-in-Ok-clause-slots : goal.returns-in-Ok-clause-slots
returns-in-Ok-clause-slots c = made_keeps_slots (board_of c.args.self.now) (record { records = c.put_place.new.records.entries; names = c.make_slot.new.self.names.items; table = c.make_slot.new.self.table }) c.args.self.now.waits c.make_slot.new.self.waits c.args.name.now c.in_ok-ticket.ticket c.requires.kept (makes_of c.args.self.now c.make_slot.new.self c.put_place.new.records.entries c.args.name.now c.in_ok-ticket.ticket c.requires.new c.in_ok-ticket.ensures.made (c.in-Ok.ensures.put ∙ ap (λ n. with_named c.make_slot.new.self.records.entries n (record { ticket = c.in_ok-ticket.ticket; piece = None })) c.in_ok-key.ensures) c.claims_are_tied.ensures)

pub returns-in-Err-clause-slots : goal.returns-in-Err-clause-slots
returns-in-Err-clause-slots c =
    same_keeps_slots (board_of c.args.self.now) (record { records = c.put_place.new.records.entries; names = c.make_slot.new.self.names.items; table = c.remove.new.self }) c.args.self.now.waits c.make_slot.new.self.waits c.requires.kept
    (undone c.args.self.now c.make_slot.new.self c.put_place.new.records.entries c.remove.new.self c.args.name.now c.in_ok-ticket.ticket c.requires.kept c.in_ok-ticket.ensures.made c.in-Err.ensures.same
    (taken_out c.make_slot.new.self.table.pieces c.remove.new.self.pieces c.in_ok-ticket.ticket c.remove.result c.in_ok-ticket.ensures.made.given.put.here c.remove.ensures.piece c.remove.ensures.gone)
    (claims_stay c.make_slot.new.self.table c.remove.new.self c.in_ok-ticket.ticket c.remove.result c.in_ok-ticket.ensures.made.given.put.here c.remove.ensures.piece c.remove.ensures.claims)
    c.claims_are_tied-in-Err.ensures)
