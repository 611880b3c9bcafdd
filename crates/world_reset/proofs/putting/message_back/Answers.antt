use Rattle.value_core.specs.Placed.{filled}
use Rattle.world_reset.proofs.putting.message_back.Goals as goal
use Rattle.world_reset.proofs.Returned.{taken-others}

pub returns-in-Some-clause-taken : goal.returns-in-Some-clause-taken
returns-in-Some-clause-taken c = taken-others c.args.name.now (filled c.args.taken.now) (filled c.take.new.self) c.take.ensures.shows

pub returns-in_default-clause-taken : goal.returns-in_default-clause-taken
returns-in_default-clause-taken c = taken-others c.args.name.now (filled c.args.taken.now) (filled c.take.new.self) c.take.ensures.shows
