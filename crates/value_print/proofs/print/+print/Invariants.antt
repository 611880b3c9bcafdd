use Rattle.std.proofs.Common.{◌≡◌, ◌++◌, drop, map, true}
use Rattle.std.specs.Prelude.{codes, ◌==◌}
use Rattle.shared_vector.specs.VectorItems.{items_left}
use Rattle.value_core.specs.Texts.{key_text, value_text}
use Rattle.value_core.proofs.Joined.{left_at}
use Rattle.value_print.proofs.print.+print.Given as goal

abbrev pub invariant-push_vector-loop-item : goal.invariant-push_vector-loop-item
invariant-push_vector-loop-item l =
    l.text ++ left_at (codes " ") (l.before == 0) (map (value_text l.style) (items_left l.item-iterator)) ≡ l.initial.text ++ left_at (codes " ") true (map (value_text l.style) l.items)

abbrev pub invariant-push_map-loop-index : goal.invariant-push_map-loop-index
invariant-push_map-loop-index l = record {
  all : l.pair-items ≡ l.pairs;
  written : l.text ++ left_at (codes ", ") (l.index == 0) (map (λ p. key_text l.style p.key ++ codes " " ++ value_text l.style p.value) (drop l.index l.pair-items))
      ≡ l.initial.text ++ left_at (codes ", ") true (map (λ p. key_text l.style p.key ++ codes " " ++ value_text l.style p.value) l.pair-items);
}
