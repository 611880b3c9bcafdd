use Rattle.std.proofs.Common.{◌≡◌, ◌≤◌, min, max, map, drop}
use Rattle.shared_vector.specs.VectorItems.{items_left}
use Rattle.value_core.specs.Depth.{depth_of, deepest}
use Rattle.value_core.proofs.value.+depth.Given as goal

abbrev pub invariant-deepest_item-loop-item : goal.invariant-deepest_item-loop-item
invariant-deepest_item-loop-item l = record {
  capped : l.most ≤ 4294967295;
  left : min (max l.most (deepest (map depth_of (items_left l.item-iterator)))) 4294967295 ≡ min (deepest (map depth_of l.items)) 4294967295;
}

abbrev pub invariant-deepest_value-loop-pair : goal.invariant-deepest_value-loop-pair
invariant-deepest_value-loop-pair l = record {
  capped : l.most ≤ 4294967295;
  left : min (max l.most (deepest (map (λ p. depth_of p.value) (drop l.pair-index l.pair-items)))) 4294967295 ≡ min (deepest (map (λ p. depth_of p.value) l.pairs)) 4294967295;
}
