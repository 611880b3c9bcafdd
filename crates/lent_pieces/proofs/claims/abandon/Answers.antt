use Rattle.lent_pieces.proofs.Lending.{abandoned}
use Rattle.lent_pieces.proofs.claims.abandon.Goals as goal
use Rattle.world_steps.specs.Kept.{shared_of}

pub returns : goal.returns
returns c = abandoned (shared_of c.args.kept.now) c.args.ticket c.take_back.new.self c.take_back.ensures.pieces c.claims_are_tied.ensures c.lent_are_ready.ensures c.take_back.ensures.unlent c.take_back.ensures.same
