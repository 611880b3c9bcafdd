use Rattle.attempts_gone.proofs.Live.{taken}
use Rattle.schedule_drive.proofs.kept.take.Goals as goal

pub returns-clause-gone : goal.returns-clause-gone
returns-clause-gone c = taken c.args.name.now c.args.kept.now.entries c.remove.new.self.entries c.remove.ensures.updates.0
