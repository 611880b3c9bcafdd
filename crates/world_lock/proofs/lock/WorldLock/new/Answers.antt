use Rattle.std.proofs.Common.{rules}
use Rattle.world_lock.proofs.Rules.{opens}
use Rattle.world_lock.proofs.lock.WorldLock.new.Goals as goal

pub new-requires : goal.new-requires
new-requires g c = rw (c.in_ok-slots.ensures.one, c.of.ensures) (opens g.T.Grows.setup g.T.Grows.history c.args.value c.args.seats c.requires (search rules))
