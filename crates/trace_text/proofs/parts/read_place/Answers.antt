use Rattle.std.proofs.Common.{◌∙◌, sym, ap, Err, inl, inr}
use Rattle.trace_text.specs.declared.no.LineNo.TheVariants.{Bad}
use Rattle.trace_text.proofs.Nos.{was_none, given}
use Rattle.trace_text.proofs.Pairs.{no_pair_uncut, no_pair_first, no_pair_second}
use Rattle.trace_text.proofs.Shapes.{no_place, no_place_at_zero, numbers_never_colon}
use Rattle.trace_text.proofs.parts.read_place.Goals as goal

pub returns-in_err-line-clause-bad : goal.returns-in_err-line-clause-bad
returns-in_err-line-clause-bad c bad =
    let uncut = c.cut.ensures.none (was_none c.cut.result Bad c.in_err-line.field-0.0 (sym c.ok_or.ensures.value ∙ c.in_err-line.was)) in
    no_place c.args.word.now (no_pair_uncut 58 c.args.word.now uncut)

pub returns-in_err-line-2-clause-bad : goal.returns-in_err-line-2-clause-bad
returns-in_err-line-2-clause-bad c bad =
    let parts = given c.cut.result Bad (c.in_ok-line.line, c.in_ok-line.column) _ (sym c.ok_or.ensures.value ∙ c.in_ok-line.was) c.cut.ensures.some in
    let same = rw bad at c.from_residual-in_err-line-2.ensures in
    let none = c.read_number.ensures.bad (c.in_err-line-2.was ∙ ap Err (sym same.1)) in
    no_place c.args.word.now (no_pair_first 58 c.args.word.now c.in_ok-line.line.now c.in_ok-line.column.now numbers_never_colon parts (λ w. none w.number w.is))

pub returns-in_err-column-clause-bad : goal.returns-in_err-column-clause-bad
returns-in_err-column-clause-bad c bad =
    let parts = given c.cut.result Bad (c.in_ok-line.line, c.in_ok-line.column) _ (sym c.ok_or.ensures.value ∙ c.in_ok-line.was) c.cut.ensures.some in
    let same = rw bad at c.from_residual-in_err-column.ensures in
    let none = c.read_number-2.ensures.bad (c.in_err-column.was ∙ ap Err (sym same.1)) in
    no_place c.args.word.now (no_pair_second 58 c.args.word.now c.in_ok-line.line.now c.in_ok-line.column.now numbers_never_colon parts (λ w. none w.number w.is))

pub returns-then-line-eq0-clause-bad : goal.returns-then-line-eq0-clause-bad
returns-then-line-eq0-clause-bad c bad =
    let parts = given c.cut.result Bad (c.in_ok-line.line, c.in_ok-line.column) _ (sym c.ok_or.ensures.value ∙ c.in_ok-line.was) c.cut.ensures.some in
    no_place_at_zero c.args.word.now c.in_ok-line.line.now c.in_ok-line.column.now c.in_ok-line-2.line c.in_ok-column.column parts c.in_ok-line-2.ensures.ok c.in_ok-column.ensures.ok
    (elim c.then-line-eq0.either [ inl first ↦ inl first | inr second ↦ inr second.1 ])
