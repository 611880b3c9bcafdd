use Rattle.std.proofs.Common.{rules}
use Rattle.world_lock.proofs.Rules.{gives_word}
use Rattle.world_lock.proofs.lock.WorldLock.give_word.Goals as goal

pub store-requires : goal.store-requires
store-requires g c = let later = c.requires.later in (
  search rules,
  search rules,
  gives_word g.T.Grows.setup g.T.Grows.history _ _ _ _ _ later.0 later.1 (search rules) later.2 later.3 c.requires.live later.4,
)
