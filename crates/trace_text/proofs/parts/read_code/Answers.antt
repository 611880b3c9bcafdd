use Rattle.std.proofs.Common.{◌∙◌, sym, ap, Err}
use Rattle.trace_text.specs.declared.no.LineNo.TheVariants.{Bad}
use Rattle.trace_text.proofs.Nos.{was_none}
use Rattle.trace_text.proofs.Shapes.{no_code_at, no_code_number}
use Rattle.trace_text.proofs.parts.read_code.Goals as goal

pub returns-in_err-number-clause-bad : goal.returns-in_err-number-clause-bad
returns-in_err-number-clause-bad c bad =
    let same = rw bad at c.from_residual.ensures in
    no_code_number c.args.word.now (c.read_number.ensures.bad (c.in_err-number.was ∙ ap Err (sym same.1)))

pub returns-clause-bad : goal.returns-clause-bad
returns-clause-bad c bad =
    no_code_at c.in_ok-number.number c.args.word.now c.in_ok-number.ensures.ok (c.code_at.ensures.none (was_none c.code_at.result Bad Bad (sym c.ok_or.ensures.value ∙ bad)))
