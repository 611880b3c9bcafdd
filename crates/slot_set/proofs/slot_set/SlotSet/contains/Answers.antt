use Rattle.std.proofs.Common.{sym, ◌∙◌}
use Rattle.slot_set.proofs.Levels.{members-read}
use Rattle.slot_set.proofs.slot_set.SlotSet.contains.Goals as goal

pub returns : goal.returns
returns c = rw (← c.self.view_is) (rw c.as_slice.ensures.value at c.has_bit.ensures ∙ sym (members-read c.self.inside.low.items c.args.slot))
