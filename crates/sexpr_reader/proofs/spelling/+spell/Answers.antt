use Rattle.std.specs.Prelude.{codes}
use Rattle.sexpr_reader.specs.Spelling.{form_text}
use Rattle.value_core.proofs.Joined.{between}
use Rattle.sexpr_reader.proofs.spelling.+spell.Goals as goal

pub push_parts-returns : goal.push_parts-returns
push_parts-returns t c =
    between form_text (codes " ") c.items-part-items.result.now c.args.parts.now c.loop-index.index c.args.text.now c.extend.new.self c.loop-index.text c.args.opens.now c.args.closes.now c.extend-2.new.self c.extend-2.result
    c.loop-index-test.false c.loop-index.invariant.all c.in_ok-extend.ensures.ok c.loop-index.invariant.written c.extend-2.ensures.ok
