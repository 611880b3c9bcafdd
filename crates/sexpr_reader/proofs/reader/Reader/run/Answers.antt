use Rattle.std.proofs.Common.{[], refl, sym, ◌∙◌}
use Rattle.sexpr_reader.specs.Bytes.{has}
use Rattle.sexpr_reader.proofs.Cursors.{Over-none, Spans-step}
use Rattle.sexpr_reader.proofs.reader.Reader.run.Goals as goal

pub loop-class-init : goal.loop-class-init
loop-class-init c = ([], record { each = refl; over = Over-none _ })

pub loop-class-preserved : goal.loop-class-preserved
loop-class-preserved c =
    Spans-step (has c.args.class) c.advance.result (sym c.begins.ensures ∙ c.loop-class-test.true) c.advance.ensures.end c.advance.ensures.step c.loop-class.invariant
