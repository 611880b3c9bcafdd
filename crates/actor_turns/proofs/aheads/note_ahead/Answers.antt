use Rattle.actor_turns.proofs.Due.{on-ok}
use Rattle.actor_turns.proofs.Noted.{noted-so}
use Rattle.world_steps.specs.Kept.{shared_of}
use Rattle.actor_turns.proofs.aheads.note_ahead.Goals as goal

pub returns-in-Ok-clause-noted : goal.returns-in-Ok-clause-noted
returns-in-Ok-clause-noted c =
    noted-so (shared_of c.args.kept.now) c.room_ahead.new.kept c.args.name.now c.args.turn.now c.put_ahead.new.aheads c.number_next.new.begun
    c.in_ok-room_ahead.ensures.same c.in_ok-room_ahead.ensures.room (c.in-Ok.ensures.begun c.args.name.now c.in_ok-take.ensures)
