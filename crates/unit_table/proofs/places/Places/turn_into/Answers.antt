use Rattle.unit_table.specs.Keeping.{board_of}
use Rattle.unit_table.proofs.Contents.{turned_claims, turned_keeps, turned_places, turned_put, turned_slots}
use Rattle.unit_table.proofs.places.Places.turn_into.Goals as goal

pub returns-clause-kept : goal.returns-clause-kept
returns-clause-kept c = turned_keeps (board_of c.args.self.now) c.turn_into.new.records.entries c.args.self.now.waits c.args.name.now c.args.next c.requires.kept c.requires.there c.turn_into.ensures

pub returns-clause-turned : goal.returns-clause-turned
returns-clause-turned c = turned_put (board_of c.args.self.now) c.turn_into.new.records.entries c.args.self.now.waits c.args.name.now c.args.next c.requires.kept c.requires.there c.turn_into.ensures

pub returns-clause-claims : goal.returns-clause-claims
returns-clause-claims c = turned_claims (board_of c.args.self.now) c.turn_into.new.records.entries c.args.self.now.waits c.args.name.now c.args.next c.requires.kept c.requires.there c.turn_into.ensures

pub returns-clause-places : goal.returns-clause-places
returns-clause-places c = turned_places (board_of c.args.self.now) c.turn_into.new.records.entries c.args.self.now.waits c.args.name.now c.args.next c.requires.kept c.requires.there c.turn_into.ensures

pub returns-clause-slots : goal.returns-clause-slots
returns-clause-slots c = turned_slots (board_of c.args.self.now) c.turn_into.new.records.entries c.args.self.now.waits c.args.name.now c.args.next c.requires.kept c.requires.there c.turn_into.ensures
