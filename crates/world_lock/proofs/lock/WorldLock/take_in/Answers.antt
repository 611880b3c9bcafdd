use Rattle.std.proofs.Common.{rules}
use Rattle.world_lock.proofs.Rules.{joins}
use Rattle.world_lock.proofs.lock.WorldLock.take_in.Goals as goal

pub join_seat-requires : goal.join_seat-requires
join_seat-requires g c = (search rules, search rules, search rules, search rules, joins g.T.Grows.setup g.T.Grows.history _ _ _ _ _ _ c.requires.live c.requires.rests.0)
