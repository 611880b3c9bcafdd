use Rattle.std.proofs.Common.{arith}
use Rattle.slot_set.proofs.Levels.{length-members, members-same, Marks-grow, OnOk-map}
use Rattle.slot_set.proofs.slot_set.SlotSet.reserve.Goals as goal

pub invariant_of-self-2 : goal.invariant_of-self-2
invariant_of-self-2 c = record {
  low_mid = Marks-grow c.self.inside.low.items c.self.inside.mid.items c.self.invariant.low_mid _ _ c.grow-3.ensures.same c.grow-2.ensures.same (omega (arith, c.grow-3.ensures.at_most, c.in_ok-grow-2.ensures.ok, c.grow-2.ensures.kept, c.self.invariant.low_mid.room));
  mid_top = Marks-grow c.self.inside.mid.items c.self.inside.top.items c.self.invariant.mid_top _ _ c.grow-2.ensures.same c.grow.ensures.same (omega (arith, c.grow-2.ensures.at_most, c.in_ok-grow.ensures.ok, c.grow.ensures.kept, c.self.invariant.mid_top.room));
  fits_low = omega (arith, c.grow-3.ensures.at_most, c.self.invariant.fits_low, c.ranges.slots.fits);
  fits_mid = omega (arith, c.grow-2.ensures.at_most, c.self.invariant.fits_mid, c.ranges.slots.fits);
  fits_top = omega (arith, c.grow.ensures.at_most, c.self.invariant.fits_top, c.ranges.slots.fits);
}

pub returns-clause-room : goal.returns-clause-room
returns-clause-room c = OnOk-map c.grow-3.result c.grow-3.ensures.ok (λ more. omega (arith, more, length-members c.grow-3.new.words.items))

pub returns-clause-members : goal.returns-clause-members
returns-clause-members c = rw (← c.self.view_is) (members-same c.self.inside.low.items c.grow-3.new.words.items c.grow-3.ensures.same)

pub returns-clause-kept : goal.returns-clause-kept
returns-clause-kept c = rw (← c.self.view_is) (omega (arith, c.grow-3.ensures.kept, length-members c.self.inside.low.items, length-members c.grow-3.new.words.items))
