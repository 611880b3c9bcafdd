use Rattle.actor_turns.proofs.Noted.{taken-ahead}
use Rattle.world_steps.specs.Kept.{shared_of}
use Rattle.actor_turns.proofs.aheads.take_due.Goals as goal

pub returns-in-Ok : goal.returns-in-Ok
returns-in-Ok c =
    taken-ahead (shared_of c.args.kept.now) (shared_of c.begin_ahead.new.kept) c.note_ahead.new.kept c.args.name.now c.in_ok-turning.turning c.begin_ahead.result c.requires.due c.in_ok-turning.ensures c.in-Ok.ensures.noted c.begin_ahead.ensures
