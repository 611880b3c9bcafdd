use Rattle.std.proofs.Common.{arith, refl, false}
use Rattle.slot_set.proofs.Levels.{length-members, members-write, AreLevels-clear_all}
use Rattle.slot_set.proofs.slot_set.SlotSet.remove.Goals as goal

pub clear_bit-requires : goal.clear_bit-requires
clear_bit-requires c = omega (arith, rw (← c.self.view_is) at c.requires, length-members c.self.inside.low.items)

pub clear_bit-requires-then-clear_bit : goal.clear_bit-requires-then-clear_bit
clear_bit-requires-then-clear_bit c = omega (arith, rw (← c.self.view_is) at c.requires, length-members c.self.inside.low.items, c.self.invariant.low_mid.room)

pub clear_bit-requires-then-clear_bit-2 : goal.clear_bit-requires-then-clear_bit-2
clear_bit-requires-then-clear_bit-2 c = omega (arith, rw (← c.self.view_is) at c.requires, length-members c.self.inside.low.items, c.self.invariant.low_mid.room, c.self.invariant.mid_top.room)

pub invariant_of-self : goal.invariant_of-self
invariant_of-self c =
    AreLevels-clear_all c.self.inside.low.items c.self.inside.mid.items c.self.inside.top.items c.self.invariant c.args.slot _ _ _ c.clear_bit.ensures.writes (c.clear_bit.ensures.none.0 c.if-clear_bit.true) c.clear_bit-then-clear_bit.ensures.writes (c.clear_bit-then-clear_bit.ensures.none.0 c.if-clear_bit-2.true) c.clear_bit-then-clear_bit-2.ensures.writes

pub returns-then-clear_bit-2 : goal.returns-then-clear_bit-2
returns-then-clear_bit-2 c = rw (← c.self.view_is) (members-write c.self.inside.low.items c.clear_bit.new.words.items c.args.slot 0 false c.clear_bit.ensures.writes (omega (arith, rw (← c.self.view_is) at c.requires, length-members c.self.inside.low.items)) refl)

pub returns-else-clear_bit-2 : goal.returns-else-clear_bit-2
returns-else-clear_bit-2 c = rw (← c.self.view_is) (members-write c.self.inside.low.items c.clear_bit.new.words.items c.args.slot 0 false c.clear_bit.ensures.writes (omega (arith, rw (← c.self.view_is) at c.requires, length-members c.self.inside.low.items)) refl)

pub returns-else-clear_bit : goal.returns-else-clear_bit
returns-else-clear_bit c = rw (← c.self.view_is) (members-write c.self.inside.low.items c.clear_bit.new.words.items c.args.slot 0 false c.clear_bit.ensures.writes (omega (arith, rw (← c.self.view_is) at c.requires, length-members c.self.inside.low.items)) refl)
