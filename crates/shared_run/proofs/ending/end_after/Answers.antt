use Rattle.shared_run.proofs.ending.end_after.Goals as goal
use Rattle.shared_run.proofs.GoingOn.{bytes_go_on}

pub returns-in-Ok-clause-goes_on : goal.returns-in-Ok-clause-goes_on
returns-in-Ok-clause-goes_on g c = bytes_go_on c.args.world.now c.finish-finished.new.self c.stands.ensures.stands c.stands-2.ensures.stands c.finish-finished.ensures.later

pub returns-in-Err-clause-goes_on : goal.returns-in-Err-clause-goes_on
returns-in-Err-clause-goes_on g c = bytes_go_on c.args.world.now c.finish-finished.new.self c.stands.ensures.stands c.stands-2.ensures.stands c.finish-finished.ensures.later
