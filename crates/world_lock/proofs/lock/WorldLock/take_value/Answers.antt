use Rattle.std.proofs.Common.{rules, Some, refl}
use Rattle.world_lock.proofs.lock.WorldLock.take_value.Goals as goal

pub exchange-slot-requires : goal.exchange-slot-requires
exchange-slot-requires g c = (search rules, (Some c.requires.slot.0, rw c.requires.slot.1 refl))
