use Rattle.slot_set.proofs.Levels.{IsFirstWord-below, IsZero-below, IsLeast-members, no-members}
use Rattle.slot_set.proofs.slot_set.SlotSet.first.Goals as goal

pub first_bit-requires-clause-first : goal.first_bit-requires-clause-first
first_bit-requires-clause-first c =
    rw c.as_slice-in-Some-3.ensures.value (IsFirstWord-below c.self.inside.low.items c.self.inside.mid.items c.self.invariant.low_mid c.first_bit-low.result (rw c.as_slice-in-Some-2.ensures.value at c.first_bit-low.ensures.first))

pub returns-in-Some-clause-some : goal.returns-in-Some-clause-some
returns-in-Some-clause-some c =
    rw (← c.self.view_is) (IsLeast-members c.self.inside.low.items c.first_bit.result (rw c.as_slice-in-Some-3.ensures.value at c.first_bit.ensures.first) (rw c.as_slice-in-Some-3.ensures.value at c.first_bit.ensures.within))

pub returns-in-None-clause-none : goal.returns-in-None-clause-none
returns-in-None-clause-none c =
    rw (← c.self.view_is) (no-members c.self.inside.low.items (IsZero-below c.self.inside.low.items c.self.inside.mid.items c.self.invariant.low_mid (IsZero-below c.self.inside.mid.items c.self.inside.top.items c.self.invariant.mid_top (rw c.as_slice.ensures.value at c.in-None.ensures.none))))
