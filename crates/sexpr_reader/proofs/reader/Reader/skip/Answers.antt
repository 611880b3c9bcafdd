use Rattle.std.proofs.Common.{◌≡◌, sym, rules}
use Rattle.std.specs.Prelude.{Some}
use Rattle.sexpr_reader.specs.Gap.{nothing}
use Rattle.sexpr_reader.specs.Steps.{gap_class}
use Rattle.sexpr_reader.proofs.Lexing.{Gap-step, Gap-shorter}
use Rattle.sexpr_reader.proofs.reader.Reader.skip.Goals as goal

pub loop-class-preserved : goal.loop-class-preserved
loop-class-preserved c d g =
    let is : gap_class c.lead.result ≡ Some c.in-Some.class = search rules in
    c.loop-class.invariant d (Gap-step c.lead.result c.in-Some.class c.run.result.now (sym c.lead.ensures) is c.run.ensures g)

pub loop-class-smaller : goal.loop-class-smaller
loop-class-smaller c =
    let is : gap_class c.lead.result ≡ Some c.in-Some.class = search rules in
    Gap-shorter c.lead.result c.in-Some.class c.run.result.now (sym c.lead.ensures) is c.run.ensures

pub returns-clause-gap : goal.returns-clause-gap
returns-clause-gap c = c.loop-class.invariant _ nothing
