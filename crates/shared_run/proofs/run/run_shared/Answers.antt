use Rattle.shared_run.proofs.GoingOn.{took_all, took_more}
use Rattle.shared_run.proofs.run.run_shared.Goals as goal

pub returns-clause-prefix : goal.returns-clause-prefix
returns-clause-prefix g c =
    took_more (g.K.Sink.seen c.args.sink.now).taken (g.K.Sink.seen c.share-world.new.sink).taken (g.K.Sink.seen c.end_after-ended.new.sink).taken c.share-world.result.written
    c.share-world.result.world.bytes c.end_after-ended.new.world.bytes c.share-world.ensures.within c.share-world.ensures.taken c.end_after-ended.ensures.goes_on c.end_after-ended.ensures.prefix

pub returns-clause-whole : goal.returns-clause-whole
returns-clause-whole g c =
    took_all (g.K.Sink.seen c.args.sink.now).taken (g.K.Sink.seen c.share-world.new.sink).taken (g.K.Sink.seen c.end_after-ended.new.sink).taken c.share-world.result.written
    c.share-world.result.world.bytes c.end_after-ended.new.world.bytes c.share-world.ensures.within c.share-world.ensures.taken c.end_after-ended.ensures.goes_on
    (λ ended. ended.written) c.end_after-ended.result c.end_after-ended.ensures.whole
