use Rattle.unit_table.proofs.Forgotten.{place_taken}
use Rattle.unit_table.proofs.record.take_place.Goals as goal

pub returns : goal.returns
returns c = place_taken c.args.name.now c.args.records.now.entries c.remove-place.new.self.entries c.remove-place.ensures.updates.0
