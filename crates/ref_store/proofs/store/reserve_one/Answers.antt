use Rattle.ref_store.proofs.PlaceLaws.{watched_more}
use Rattle.ref_store.proofs.store.reserve_one.Goals as goal

pub returns-clause-watched : goal.returns-clause-watched
returns-clause-watched c = λ watched.
    c.make_room.ensures.watched c.watch.new.watched.items (c.in_ok-watch.ensures.there watched)
    (watched_more c.args.watched.now.items c.watch.new.watched.items c.args.refs.now.entries c.in_ok-watch.ensures.kept watched)
