use Rattle.attempts_gone.proofs.Live.{taken}
use Rattle.attempts_gone.proofs.snapshots.take_attempt.Goals as goal

pub returns-clause-gone : goal.returns-clause-gone
returns-clause-gone c = taken c.args.name.now c.args.attempts.now.entries c.remove.new.self.entries c.remove.ensures.updates.0
