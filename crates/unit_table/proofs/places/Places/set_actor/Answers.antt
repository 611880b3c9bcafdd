use Rattle.unit_table.specs.Keeping.{board_of}
use Rattle.unit_table.proofs.Contents.{state_claims, state_keeps, state_places, state_put, state_slots}
use Rattle.unit_table.proofs.places.Places.set_actor.Goals as goal

pub returns-clause-kept : goal.returns-clause-kept
returns-clause-kept c = state_keeps (board_of c.args.self.now) c.set_actor.new.records.entries c.args.self.now.waits c.args.name.now c.args.state c.requires.kept c.requires.there c.set_actor.ensures

pub returns-clause-set : goal.returns-clause-set
returns-clause-set c = state_put (board_of c.args.self.now) c.set_actor.new.records.entries c.args.self.now.waits c.args.name.now c.args.state c.requires.kept c.requires.there c.set_actor.ensures

pub returns-clause-claims : goal.returns-clause-claims
returns-clause-claims c = state_claims (board_of c.args.self.now) c.set_actor.new.records.entries c.args.self.now.waits c.args.name.now c.args.state c.requires.kept c.requires.there c.set_actor.ensures

pub returns-clause-places : goal.returns-clause-places
returns-clause-places c = state_places (board_of c.args.self.now) c.set_actor.new.records.entries c.args.self.now.waits c.args.name.now c.args.state c.requires.kept c.requires.there c.set_actor.ensures

pub returns-clause-slots : goal.returns-clause-slots
returns-clause-slots c = state_slots (board_of c.args.self.now) c.set_actor.new.records.entries c.args.self.now.waits c.args.name.now c.args.state c.requires.kept c.requires.there c.set_actor.ensures
