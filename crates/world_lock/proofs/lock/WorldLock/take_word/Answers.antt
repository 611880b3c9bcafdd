use Rattle.std.proofs.Common.{rules}
use Rattle.world_lock.proofs.Rules.{takes_word}
use Rattle.world_lock.proofs.lock.WorldLock.take_word.Goals as goal

pub compare_exchange-requires : goal.compare_exchange-requires
compare_exchange-requires g c = (search rules, search rules, takes_word g.T.Grows.setup g.T.Grows.history _ _ _ _ _ (search rules) (search rules))
