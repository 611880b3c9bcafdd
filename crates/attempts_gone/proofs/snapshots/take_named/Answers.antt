use Rattle.attempts_gone.proofs.Live.{found-under, taken}
use Rattle.attempts_gone.proofs.snapshots.take_named.Goals as goal

pub returns-clause-name : goal.returns-clause-name
returns-clause-name c = found-under c.args.name.now c.remove_entry.result c.remove_entry.ensures.same_key

pub returns-clause-gone : goal.returns-clause-gone
returns-clause-gone c = taken c.args.name.now c.args.attempts.now.entries c.remove_entry.new.self.entries c.remove_entry.ensures.updates.0
