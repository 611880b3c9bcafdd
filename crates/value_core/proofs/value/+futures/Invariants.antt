use Rattle.std.proofs.Common.{◌≡◌, drop}
use Rattle.std.specs.List.{list_any}
use Rattle.shared_vector.specs.VectorItems.{items_left}
use Rattle.value_core.specs.Futures.{holds_future}
use Rattle.value_core.proofs.value.+futures.Given as goal

abbrev pub invariant-some_item_holds_future-loop-item : goal.invariant-some_item_holds_future-loop-item
invariant-some_item_holds_future-loop-item l = list_any holds_future (items_left l.item-iterator) ≡ list_any holds_future l.items

abbrev pub invariant-some_value_holds_future-loop-pair : goal.invariant-some_value_holds_future-loop-pair
invariant-some_value_holds_future-loop-pair l = list_any (λ p. holds_future p.value) (drop l.pair-index l.pair-items) ≡ list_any (λ p. holds_future p.value) l.pairs
