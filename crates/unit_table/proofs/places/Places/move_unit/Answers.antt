use Rattle.unit_table.specs.Keeping.{board_of}
use Rattle.unit_table.proofs.Contents.{moved_claims, moved_keeps, moved_places, moved_put, moved_slots}
use Rattle.unit_table.proofs.places.Places.move_unit.Goals as goal

pub returns-clause-kept : goal.returns-clause-kept
returns-clause-kept c = moved_keeps (board_of c.args.self.now) c.move_unit.new.records.entries c.args.self.now.waits c.args.name.now c.args.machine c.args.made c.requires.kept c.requires.there c.move_unit.ensures

pub returns-clause-moved : goal.returns-clause-moved
returns-clause-moved c = moved_put (board_of c.args.self.now) c.move_unit.new.records.entries c.args.self.now.waits c.args.name.now c.args.machine c.args.made c.requires.kept c.requires.there c.move_unit.ensures

pub returns-clause-claims : goal.returns-clause-claims
returns-clause-claims c = moved_claims (board_of c.args.self.now) c.move_unit.new.records.entries c.args.self.now.waits c.args.name.now c.args.machine c.args.made c.requires.kept c.requires.there c.move_unit.ensures

pub returns-clause-places : goal.returns-clause-places
returns-clause-places c = moved_places (board_of c.args.self.now) c.move_unit.new.records.entries c.args.self.now.waits c.args.name.now c.args.machine c.args.made c.requires.kept c.requires.there c.move_unit.ensures

pub returns-clause-slots : goal.returns-clause-slots
returns-clause-slots c = moved_slots (board_of c.args.self.now) c.move_unit.new.records.entries c.args.self.now.waits c.args.name.now c.args.machine c.args.made c.requires.kept c.requires.there c.move_unit.ensures
