use Rattle.lent_pieces.proofs.Given.{actor-gave-so}
use Rattle.lent_pieces.proofs.giving.give_ended.Goals as goal
use Rattle.world_steps.specs.Kept.{shared_of}

pub returns-in-Actor : goal.returns-in-Actor
returns-in-Actor c = actor-gave-so (shared_of c.args.kept.now) (shared_of c.give_actor.new.kept) c.requires.stands c.args.name.now c.give_actor.result c.give_actor.ensures
