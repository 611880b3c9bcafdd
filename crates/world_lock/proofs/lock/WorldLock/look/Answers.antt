use Rattle.std.proofs.Common.{rules}
use Rattle.world_lock.proofs.Rules.{looks}
use Rattle.world_lock.proofs.lock.WorldLock.look.Goals as goal

pub load-requires : goal.load-requires
load-requires g c = (search rules, search rules, looks g.T.Grows.setup g.T.Grows.history _ _ _ _ _ c.requires.live)
