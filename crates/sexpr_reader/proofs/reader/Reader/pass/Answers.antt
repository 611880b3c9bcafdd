use Rattle.sexpr_reader.proofs.Cursors.{Over-none}
use Rattle.sexpr_reader.proofs.Lexing.{Over-pass}
use Rattle.std.proofs.Common.{arith, ◌<◌, length}
use Rattle.sexpr_reader.proofs.reader.Reader.pass.Goals as goal

pub loop-index-init : goal.loop-index-init
loop-index-init c = Over-none _

pub loop-index-preserved : goal.loop-index-preserved
loop-index-preserved c =
    let h : c.loop-index.index < length c.args.self.now.rest = omega arith in
    Over-pass c.advance.result c.loop-index.index h c.loop-index.invariant c.advance.ensures.end c.advance.ensures.step
