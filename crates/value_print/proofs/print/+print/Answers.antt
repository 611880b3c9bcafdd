use Rattle.std.proofs.Common.{◌++◌, length, refl, arith}
use Rattle.std.specs.Prelude.{codes, ◌==◌}
use Rattle.shared_vector.specs.VectorItems.{items_left}
use Rattle.value_core.specs.declared.pair.Pair.{Pair}
use Rattle.value_core.specs.declared.value.Value.{Value}
use Rattle.value_core.specs.Texts.{value_text, key_text}
use Rattle.value_core.proofs.Joined.{between, ended}
use Rattle.value_print.proofs.MapTexts.{value_text_map}
use Rattle.value_print.proofs.print.+print.Goals as goal

pub push_vector-returns : goal.push_vector-returns
push_vector-returns t c =
    between (value_text c.args.style) (codes " ") c.args.items.now c.args.items.now (length c.args.items.now) c.args.text.now c.extend.new.self c.loop-item.text (codes "[") (codes "]") c.extend-2.new.self c.extend-2.result
    (omega arith) refl c.in_ok-extend.ensures.ok (ended (value_text c.args.style) (codes " ") c.args.items.now (items_left c.loop-item.item-iterator) (c.loop-item.before == 0) c.loop-item.text _ c.in-None.ensures.steps.0 c.loop-item.invariant)
    c.extend-2.ensures.ok

pub push_map-returns : goal.push_map-returns
push_map-returns t c =
    between (λ (p : Pair Value). key_text c.args.style p.key ++ codes " " ++ value_text c.args.style p.value) (codes ", ") c.items-pair-items.result.now c.args.pairs.now c.loop-index.index c.args.text.now c.extend.new.self c.loop-index.text
    (codes "{") (codes "}") c.extend-2.new.self c.extend-2.result
    c.loop-index-test.false c.loop-index.invariant.all c.in_ok-extend.ensures.ok c.loop-index.invariant.written c.extend-2.ensures.ok

pub push_value-returns-in-Map : goal.push_value-returns-in-Map
push_value-returns-in-Map t c = rw (c.in-Map.is, value_text_map) c.push_map.ensures
