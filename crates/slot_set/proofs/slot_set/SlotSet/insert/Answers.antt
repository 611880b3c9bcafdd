use Rattle.std.proofs.Common.{arith, refl, true}
use Rattle.slot_set.proofs.Levels.{length-members, members-write, AreLevels-set}
use Rattle.slot_set.proofs.slot_set.SlotSet.insert.Goals as goal

pub set_bit-requires : goal.set_bit-requires
set_bit-requires c = omega (arith, rw (← c.self.view_is) at c.requires, length-members c.self.inside.low.items)

pub invariant_of-self : goal.invariant_of-self
invariant_of-self c =
    AreLevels-set c.self.inside.low.items c.self.inside.mid.items c.self.inside.top.items c.self.invariant c.args.slot _ _ _ c.set_bit.ensures.writes c.set_bit.ensures.some c.set_bit-2.ensures.writes c.set_bit-2.ensures.some c.set_bit-3.ensures.writes

pub returns : goal.returns
returns c = rw (← c.self.view_is) (members-write c.self.inside.low.items c.set_bit.new.words.items c.args.slot 1 true c.set_bit.ensures.writes (omega (arith, rw (← c.self.view_is) at c.requires, length-members c.self.inside.low.items)) refl)
