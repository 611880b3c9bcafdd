use Rattle.std.proofs.Common.{◌∙◌, sym, ap, Err}
use Rattle.trace_text.specs.declared.no.LineNo.TheVariants.{Bad}
use Rattle.trace_text.proofs.Nos.{was_none, some_ok}
use Rattle.trace_text.proofs.Words.{no_number, no_name_no_number, the_number}
use Rattle.trace_text.proofs.word.read_number.Goals as goal

pub returns-in_err-name-clause-bad : goal.returns-in_err-name-clause-bad
returns-in_err-name-clause-bad c bad =
    let same = rw bad at c.from_residual.ensures in
    no_name_no_number c.args.word.now (c.read_name.ensures.bad (c.in_err-name.was ∙ ap Err (sym same.1)))

pub returns-clause-bad : goal.returns-clause-bad
returns-clause-bad c bad =
    no_number c.in_ok-name.name c.args.word.now c.in_ok-name.ensures.ok
    (λ n e. c.alone.ensures.none (was_none c.alone.result Bad Bad (sym c.ok_or.ensures.value ∙ bad)) n (c.parts.ensures.value ∙ e))

pub returns-clause-ok : goal.returns-clause-ok
returns-clause-ok c =
    rw c.ok_or.ensures.value
    (some_ok c.alone.result Bad _ _ (λ n e. the_number n c.in_ok-name.name c.args.word.now c.in_ok-name.ensures.ok (sym c.parts.ensures.value ∙ e)) c.alone.ensures.some)
