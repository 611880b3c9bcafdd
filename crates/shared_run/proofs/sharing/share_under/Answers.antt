use Rattle.shared_run.proofs.sharing.share_under.Goals as goal
use Rattle.shared_run.proofs.Wrote.{world_front, world_within}

pub returns-clause-within : goal.returns-clause-within
returns-clause-within g c =
    world_within c.args.lock.setup (g.K.Sink.seen c.args.sink.now).taken (g.K.Sink.seen c.work_live-seat.new.sink).taken c.work_live-seat.result.written c.work_live-seat.result.seat.seen
    c.work_live-seat.ensures.wrote c.taken_out-world.result c.stands.ensures.stands c.taken_out-world.ensures.setup c.taken_out-world.ensures.seen

pub returns-clause-taken : goal.returns-clause-taken
returns-clause-taken g c =
    world_front c.args.lock.setup (g.K.Sink.seen c.args.sink.now).taken (g.K.Sink.seen c.work_live-seat.new.sink).taken c.work_live-seat.result.written c.work_live-seat.result.seat.seen
    c.work_live-seat.ensures.wrote c.taken_out-world.result c.stands.ensures.stands c.taken_out-world.ensures.setup c.taken_out-world.ensures.seen
