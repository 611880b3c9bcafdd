use Rattle.std.proofs.Common.{◌∙◌, sym, ap, Err}
use Rattle.trace_text.specs.declared.no.LineNo.TheVariants.{Bad}
use Rattle.trace_text.proofs.Nos.{was_none, given}
use Rattle.trace_text.proofs.Options.{not_both}
use Rattle.trace_text.proofs.Pairs.{no_pair_uncut, no_pair_first, no_pair_second}
use Rattle.trace_text.proofs.Shapes.{no_limits, numbers_never_space, out_of_range}
use Rattle.trace_text.proofs.parts.read_limits.Goals as goal

pub returns-in_err-fuel-clause-bad : goal.returns-in_err-fuel-clause-bad
returns-in_err-fuel-clause-bad c bad =
    let starts = given c.after_prefix.result Bad c.in_ok-numbers.numbers _ (sym c.ok_or.ensures.value ∙ c.in_ok-numbers.was) c.after_prefix.ensures.some in
    let uncut = c.cut.ensures.none (was_none c.cut.result Bad c.in_err-fuel.field-0.0 (sym c.ok_or-2.ensures.value ∙ c.in_err-fuel.was)) in
    no_limits c.args.line.now c.in_ok-numbers.numbers.now starts (no_pair_uncut 32 c.in_ok-numbers.numbers.now uncut)

pub returns-in_err-fuel-2-clause-bad : goal.returns-in_err-fuel-2-clause-bad
returns-in_err-fuel-2-clause-bad c bad =
    let starts = given c.after_prefix.result Bad c.in_ok-numbers.numbers _ (sym c.ok_or.ensures.value ∙ c.in_ok-numbers.was) c.after_prefix.ensures.some in
    let parts = given c.cut.result Bad (c.in_ok-fuel.fuel, c.in_ok-fuel.units) _ (sym c.ok_or-2.ensures.value ∙ c.in_ok-fuel.was) c.cut.ensures.some in
    let same = rw bad at c.from_residual-in_err-fuel-2.ensures in
    let none = c.read_number.ensures.bad (c.in_err-fuel-2.was ∙ ap Err (sym same.1)) in
    no_limits c.args.line.now c.in_ok-numbers.numbers.now starts (no_pair_first 32 c.in_ok-numbers.numbers.now c.in_ok-fuel.fuel.now c.in_ok-fuel.units.now numbers_never_space parts (λ w. none w.number w.is))

pub returns-in_err-units-clause-bad : goal.returns-in_err-units-clause-bad
returns-in_err-units-clause-bad c bad =
    let starts = given c.after_prefix.result Bad c.in_ok-numbers.numbers _ (sym c.ok_or.ensures.value ∙ c.in_ok-numbers.was) c.after_prefix.ensures.some in
    let parts = given c.cut.result Bad (c.in_ok-fuel.fuel, c.in_ok-fuel.units) _ (sym c.ok_or-2.ensures.value ∙ c.in_ok-fuel.was) c.cut.ensures.some in
    let same = rw bad at c.from_residual-in_err-units.ensures in
    let none = c.read_number-2.ensures.bad (c.in_err-units.was ∙ ap Err (sym same.1)) in
    no_limits c.args.line.now c.in_ok-numbers.numbers.now starts (no_pair_second 32 c.in_ok-numbers.numbers.now c.in_ok-fuel.fuel.now c.in_ok-fuel.units.now numbers_never_space parts (λ w. none w.number w.is))

pub returns-clause-bad : goal.returns-clause-bad
returns-clause-bad c bad =
    let starts = given c.after_prefix.result Bad c.in_ok-numbers.numbers _ (sym c.ok_or.ensures.value ∙ c.in_ok-numbers.was) c.after_prefix.ensures.some in
    let parts = given c.cut.result Bad (c.in_ok-fuel.fuel, c.in_ok-fuel.units) _ (sym c.ok_or-2.ensures.value ∙ c.in_ok-fuel.was) c.cut.ensures.some in
    let none = was_none c.checked.result Bad Bad (sym c.ok_or-3.ensures.value ∙ bad) in
    out_of_range c.args.line.now c.in_ok-numbers.numbers.now c.in_ok-fuel.fuel.now c.in_ok-fuel.units.now c.in_ok-fuel-2.fuel c.in_ok-units.units starts parts c.in_ok-fuel-2.ensures.ok c.in_ok-units.ensures.ok
    (λ range. not_both c.checked.result none (c.checked.ensures.in_range.1 (rw c.from.ensures range)))
