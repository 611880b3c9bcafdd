use Rattle.unit_table.specs.Keeping.{board_of}
use Rattle.unit_table.proofs.Forgotten.{forgotten_claims, forgotten_gone, forgotten_keeps, forgotten_pieces, forgotten_places, forgotten_slots, gives_up, in_use}
use Rattle.unit_table.proofs.places.Places.forget.Goals as goal

pub returns-in-Some-clause-kept : goal.returns-in-Some-clause-kept
returns-in-Some-clause-kept c =
    forgotten_keeps (board_of c.args.self.now) (board_of (record { records = c.take_place.new.records; names = c.take_name.new.names; table = c.remove.new.self; waits = c.args.self.now.waits })) c.args.self.now.waits c.args.name.now c.in-Some.ticket c.requires.kept
    (gives_up c.args.self.now c.take_place.new.records.entries c.take_name.new.names.items c.remove.new.self c.args.name.now c.in-Some.ticket c.remove.result c.requires.kept c.in-Some.ensures.some c.take_place.ensures c.take_name.ensures c.remove.ensures.piece c.remove.ensures.gone c.remove.ensures.claims c.claims_are_tied.ensures)

pub returns-in-Some-clause-pieces : goal.returns-in-Some-clause-pieces
returns-in-Some-clause-pieces c =
    forgotten_pieces (board_of c.args.self.now) (board_of (record { records = c.take_place.new.records; names = c.take_name.new.names; table = c.remove.new.self; waits = c.args.self.now.waits })) c.args.self.now.waits c.args.name.now c.in-Some.ticket c.requires.kept
    (gives_up c.args.self.now c.take_place.new.records.entries c.take_name.new.names.items c.remove.new.self c.args.name.now c.in-Some.ticket c.remove.result c.requires.kept c.in-Some.ensures.some c.take_place.ensures c.take_name.ensures c.remove.ensures.piece c.remove.ensures.gone c.remove.ensures.claims c.claims_are_tied.ensures)

pub returns-in-Some-clause-claims : goal.returns-in-Some-clause-claims
returns-in-Some-clause-claims c =
    forgotten_claims (board_of c.args.self.now) (board_of (record { records = c.take_place.new.records; names = c.take_name.new.names; table = c.remove.new.self; waits = c.args.self.now.waits })) c.args.self.now.waits c.args.name.now c.in-Some.ticket c.requires.kept
    (gives_up c.args.self.now c.take_place.new.records.entries c.take_name.new.names.items c.remove.new.self c.args.name.now c.in-Some.ticket c.remove.result c.requires.kept c.in-Some.ensures.some c.take_place.ensures c.take_name.ensures c.remove.ensures.piece c.remove.ensures.gone c.remove.ensures.claims c.claims_are_tied.ensures)

pub returns-in-Some-clause-places : goal.returns-in-Some-clause-places
returns-in-Some-clause-places c =
    forgotten_places (board_of c.args.self.now) (board_of (record { records = c.take_place.new.records; names = c.take_name.new.names; table = c.remove.new.self; waits = c.args.self.now.waits })) c.args.self.now.waits c.args.name.now c.in-Some.ticket c.requires.kept
    (gives_up c.args.self.now c.take_place.new.records.entries c.take_name.new.names.items c.remove.new.self c.args.name.now c.in-Some.ticket c.remove.result c.requires.kept c.in-Some.ensures.some c.take_place.ensures c.take_name.ensures c.remove.ensures.piece c.remove.ensures.gone c.remove.ensures.claims c.claims_are_tied.ensures)

pub returns-in-Some-clause-slots : goal.returns-in-Some-clause-slots
returns-in-Some-clause-slots c =
    forgotten_slots (board_of c.args.self.now) (board_of (record { records = c.take_place.new.records; names = c.take_name.new.names; table = c.remove.new.self; waits = c.args.self.now.waits })) c.args.self.now.waits c.args.name.now c.in-Some.ticket c.requires.kept
    (gives_up c.args.self.now c.take_place.new.records.entries c.take_name.new.names.items c.remove.new.self c.args.name.now c.in-Some.ticket c.remove.result c.requires.kept c.in-Some.ensures.some c.take_place.ensures c.take_name.ensures c.remove.ensures.piece c.remove.ensures.gone c.remove.ensures.claims c.claims_are_tied.ensures)

pub returns-in-Some-clause-gone : goal.returns-in-Some-clause-gone
returns-in-Some-clause-gone c empty none =
    forgotten_gone (board_of c.args.self.now) (board_of (record { records = c.take_place.new.records; names = c.take_name.new.names; table = c.remove.new.self; waits = c.args.self.now.waits })) c.args.self.now.waits c.args.name.now c.in-Some.ticket c.requires.kept
    (gives_up c.args.self.now c.take_place.new.records.entries c.take_name.new.names.items c.remove.new.self c.args.name.now c.in-Some.ticket c.remove.result c.requires.kept c.in-Some.ensures.some c.take_place.ensures c.take_name.ensures c.remove.ensures.piece c.remove.ensures.gone c.remove.ensures.claims c.claims_are_tied.ensures)

pub returns-in_default-clause-gone : goal.returns-in_default-clause-gone
returns-in_default-clause-gone c = in_use (board_of c.args.self.now) c.args.self.now.waits c.args.name.now c.requires.kept c.in_default.ensures.none
