use Rattle.unit_table.specs.Keeping.{board_of}
use Rattle.unit_table.proofs.Wakes.{none_waits, slot_in_range, waiter_called, waiter_there, wakes_claims, wakes_keeps, wakes_pieces, wakes_places, wakes_slot, wakes_slots}
use Rattle.unit_table.proofs.waking.wake_one.Goals as goal

pub wake-requires : goal.wake-requires
wake-requires c = slot_in_range (board_of c.args.places.now) c.args.places.now.waits c.requires.kept c.args.name.now c.args.slot c.requires.slot

pub settle_slot-requires-clause-named : goal.settle_slot-requires-clause-named
settle_slot-requires-clause-named c = waiter_called (board_of c.args.places.now) c.args.places.now.waits c.requires.kept c.args.slot c.in-Some.waiting c.in-Some.ensures.was

pub settle_slot-requires-clause-there : goal.settle_slot-requires-clause-there
settle_slot-requires-clause-there c = waiter_there (board_of c.args.places.now) c.args.places.now.waits c.requires.kept c.args.slot c.in-Some.waiting c.in-Some.ensures.was

pub returns-in-Some-clause-kept : goal.returns-in-Some-clause-kept
returns-in-Some-clause-kept c = wakes_keeps c.args.places.now c.wake.new.self c.settle_slot.new.records.entries c.settle_slot.new.table c.args.name.now c.args.slot c.in-Some.waiting c.requires.kept c.requires.slot c.in-Some.ensures.was c.in-Some.ensures.taken c.settle_slot.ensures c.claims_are_tied.ensures

pub returns-in-Some-clause-slot : goal.returns-in-Some-clause-slot
returns-in-Some-clause-slot c = wakes_slot c.args.places.now c.wake.new.self c.settle_slot.new.records.entries c.settle_slot.new.table c.args.name.now c.args.slot c.in-Some.waiting c.requires.kept c.requires.slot c.in-Some.ensures.was c.in-Some.ensures.taken c.settle_slot.ensures c.claims_are_tied.ensures

pub returns-in-Some-clause-woken : goal.returns-in-Some-clause-woken
returns-in-Some-clause-woken c = wakes_pieces c.args.places.now c.wake.new.self c.settle_slot.new.records.entries c.settle_slot.new.table c.args.name.now c.args.slot c.in-Some.waiting c.requires.kept c.requires.slot c.in-Some.ensures.was c.in-Some.ensures.taken c.settle_slot.ensures c.claims_are_tied.ensures

pub returns-in-Some-clause-claims : goal.returns-in-Some-clause-claims
returns-in-Some-clause-claims c = wakes_claims c.args.places.now c.wake.new.self c.settle_slot.new.records.entries c.settle_slot.new.table c.args.name.now c.args.slot c.in-Some.waiting c.requires.kept c.requires.slot c.in-Some.ensures.was c.in-Some.ensures.taken c.settle_slot.ensures c.claims_are_tied.ensures

pub returns-in-None-clause-none : goal.returns-in-None-clause-none
returns-in-None-clause-none c _ = none_waits (board_of c.args.places.now) c.args.places.now.waits c.requires.kept c.args.name.now c.args.slot c.requires.slot c.in-None.ensures.none

pub returns-in-Some-clause-places : goal.returns-in-Some-clause-places
returns-in-Some-clause-places c = wakes_places c.args.places.now c.wake.new.self c.settle_slot.new.records.entries c.settle_slot.new.table c.args.name.now c.args.slot c.in-Some.waiting c.requires.kept c.requires.slot c.in-Some.ensures.was c.in-Some.ensures.taken c.settle_slot.ensures c.claims_are_tied.ensures

pub returns-in-Some-clause-slots : goal.returns-in-Some-clause-slots
returns-in-Some-clause-slots c = wakes_slots c.args.places.now c.wake.new.self c.settle_slot.new.records.entries c.settle_slot.new.table c.args.name.now c.args.slot c.in-Some.waiting c.requires.kept c.requires.slot c.in-Some.ensures.was c.in-Some.ensures.taken c.settle_slot.ensures c.claims_are_tied.ensures
