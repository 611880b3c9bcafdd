use Rattle.std.proofs.Common.{rules}
use Rattle.world_lock.proofs.Rules.{splits}
use Rattle.world_lock.proofs.lock.WorldLock.cut_share.Goals as goal

pub split_seat-requires : goal.split_seat-requires
split_seat-requires g c = (search rules, search rules, splits g.T.Grows.setup g.T.Grows.history _ _ _ _ c.requires.two)
