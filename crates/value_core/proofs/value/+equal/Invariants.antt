use Rattle.std.proofs.Common.{◌≡◌, length, take}
use Rattle.std.specs.Prelude.{◌↔◌}
use Rattle.shared_vector.specs.VectorItems.{items_left}
use Rattle.value_core.proofs.value.+equal.Given as goal

-- what is left of the two is as long, and alike where the two are
abbrev pub invariant-equal_items-loop-item : goal.invariant-equal_items-loop-item
invariant-equal_items-loop-item l =
    record { lengths : length (items_left l.item-iterator) ≡ length (items_left l.others); alike : (items_left l.item-iterator ≡ items_left l.others) ↔ (l.left ≡ l.right) }

-- the two lists have one length, and agree up to the index
abbrev pub invariant-equal_pairs-loop-index : goal.invariant-equal_pairs-loop-index
invariant-equal_pairs-loop-index l =
    record { left : l.pair-items ≡ l.left; right : l.others ≡ l.right; lengths : length l.pair-items ≡ length l.others; alike : take l.index l.pair-items ≡ take l.index l.others }
