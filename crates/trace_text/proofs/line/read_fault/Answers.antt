use Rattle.std.proofs.Common.{◌∙◌, sym, ap, Err}
use Rattle.trace_text.specs.declared.no.LineNo.TheVariants.{Bad}
use Rattle.trace_text.proofs.Nos.{was_none, given}
use Rattle.trace_text.proofs.Pairs.{no_pair_uncut, no_pair_first, no_pair_second}
use Rattle.trace_text.proofs.Shapes.{codes_never_space, places_never_space}
use Rattle.trace_text.proofs.LineShapes.{no_fault}
use Rattle.trace_text.proofs.line.read_fault.Goals as goal

pub returns-in_err-code-clause-bad : goal.returns-in_err-code-clause-bad
returns-in_err-code-clause-bad c bad =
    let uncut = c.cut.ensures.none (was_none c.cut.result Bad c.in_err-code.field-0.0 (sym c.ok_or.ensures.value ∙ c.in_err-code.was)) in
    no_fault c.args.words.now (no_pair_uncut 32 c.args.words.now uncut)

pub returns-in_err-place-clause-bad : goal.returns-in_err-place-clause-bad
returns-in_err-place-clause-bad c bad =
    let parts = given c.cut.result Bad (c.in_ok-code.code, c.in_ok-code.rest) _ (sym c.ok_or.ensures.value ∙ c.in_ok-code.was) c.cut.ensures.some in
    let uncut = c.cut-2.ensures.none (was_none c.cut-2.result Bad c.in_err-place.field-0.0 (sym c.ok_or-2.ensures.value ∙ c.in_err-place.was)) in
    no_fault c.args.words.now (no_pair_second 32 c.args.words.now c.in_ok-code.code.now c.in_ok-code.rest.now codes_never_space parts (no_pair_uncut 32 c.in_ok-code.rest.now uncut))

pub returns-in_err-code-2-clause-bad : goal.returns-in_err-code-2-clause-bad
returns-in_err-code-2-clause-bad c bad =
    let parts = given c.cut.result Bad (c.in_ok-code.code, c.in_ok-code.rest) _ (sym c.ok_or.ensures.value ∙ c.in_ok-code.was) c.cut.ensures.some in
    let same = rw bad at c.from_residual-in_err-code-2.ensures in
    let none = c.read_code.ensures.bad (c.in_err-code-2.was ∙ ap Err (sym same.1)) in
    no_fault c.args.words.now (no_pair_first 32 c.args.words.now c.in_ok-code.code.now c.in_ok-code.rest.now codes_never_space parts (λ w. none w.failed w.is))

pub returns-in_err-at-clause-bad : goal.returns-in_err-at-clause-bad
returns-in_err-at-clause-bad c bad =
    let parts = given c.cut.result Bad (c.in_ok-code.code, c.in_ok-code.rest) _ (sym c.ok_or.ensures.value ∙ c.in_ok-code.was) c.cut.ensures.some in
    let later = given c.cut-2.result Bad (c.in_ok-place.place, c.in_ok-place.unit) _ (sym c.ok_or-2.ensures.value ∙ c.in_ok-place.was) c.cut-2.ensures.some in
    let same = rw bad at c.from_residual-in_err-at.ensures in
    let none = c.read_place.ensures.bad (c.in_err-at.was ∙ ap Err (sym same.1)) in
    no_fault c.args.words.now (no_pair_second 32 c.args.words.now c.in_ok-code.code.now c.in_ok-code.rest.now codes_never_space parts
    (no_pair_first 32 c.in_ok-code.rest.now c.in_ok-place.place.now c.in_ok-place.unit.now places_never_space later (λ w. none w.at w.is)))

pub returns-in_err-unit-clause-bad : goal.returns-in_err-unit-clause-bad
returns-in_err-unit-clause-bad c bad =
    let parts = given c.cut.result Bad (c.in_ok-code.code, c.in_ok-code.rest) _ (sym c.ok_or.ensures.value ∙ c.in_ok-code.was) c.cut.ensures.some in
    let later = given c.cut-2.result Bad (c.in_ok-place.place, c.in_ok-place.unit) _ (sym c.ok_or-2.ensures.value ∙ c.in_ok-place.was) c.cut-2.ensures.some in
    let same = rw bad at c.from_residual-in_err-unit.ensures in
    let none = c.read_name.ensures.bad (c.in_err-unit.was ∙ ap Err (sym same.1)) in
    no_fault c.args.words.now (no_pair_second 32 c.args.words.now c.in_ok-code.code.now c.in_ok-code.rest.now codes_never_space parts
    (no_pair_second 32 c.in_ok-code.rest.now c.in_ok-place.place.now c.in_ok-place.unit.now places_never_space later (λ w. none w.name w.is)))
