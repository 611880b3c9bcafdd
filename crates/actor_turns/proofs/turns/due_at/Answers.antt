use Rattle.actor_turns.proofs.Due.{due-so}
use Rattle.world_steps.specs.Kept.{shared_of}
use Rattle.actor_turns.proofs.turns.due_at.Goals as goal

pub returns-in-Some : goal.returns-in-Some
returns-in-Some c = due-so (shared_of c.args.kept.now) c.args.name.now c.args.actor.now c.in-Some.message.now c.due_on.result c.requires c.in-Some.ensures c.in_ok-check_begin.ensures c.due_on.ensures
