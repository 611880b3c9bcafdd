use Rattle.std.specs.Arc.{arc_value}
use Rattle.lent_pieces.proofs.Returning.{back-plain}
use Rattle.world_steps.specs.Kept.{shared_of}
use Rattle.world_claim.specs.Run.{returned_of}
use Rattle.lent_pieces.proofs.giving.give_on.Goals as goal

pub returns-in-Err : goal.returns-in-Err
returns-in-Err c = back-plain (shared_of c.args.kept.now) (shared_of c.leave.new.kept) (returned_of (arc_value c.args.kept.now.program) c.args.parts) c.requires.stands c.leave.ensures
