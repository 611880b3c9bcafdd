use Rattle.std.proofs.Common.{◌+◌, ◌∷◌, [], length, ◌∙◌, sym, ap, subst, arith, length-append}
use Rattle.trace_text.specs.Lines.{IsLineText}
use Rattle.trace_text.specs.Refused.{IsWhy}
use Rattle.trace_text.proofs.Cuts.{length_cut}
use Rattle.trace_text.proofs.Nos.{given}
use Rattle.trace_text.proofs.Options.{none_left}
use Rattle.trace_text.proofs.Passing.{no_text, some_text, Passed, none_leads, none_leads_uncut, no_limits_lead, no_limits_uncut, passed_limits, passed_more, refused_after, refused_head, refused_here, refused_limits, taken}
use Rattle.trace_text.proofs.Whys.{handed_on, for_no_value, not_read, was_read}
use Rattle.trace_text.proofs.read.read_lines.Goals as goal

pub returns-in_err-after_head-clause-refused : goal.returns-in_err-after_head-clause-refused
returns-in_err-after_head-clause-refused c =
    handed_on c.args.bytes.now c.from_residual.result c.in_err-after_head.field-0.0 c.from_residual.ensures.1
    (for_no_value c.args.bytes.now c.after_prefix.result c.at.result c.in_err-after_head.field-0.0 1 (sym c.ok_or.ensures.value ∙ c.in_err-after_head.was) c.at.ensures
    (λ none. refused_head c.args.bytes.now c.requires.within (c.after_prefix.ensures.none none)))

pub returns-in_err-line-clause-refused : goal.returns-in_err-line-clause-refused
returns-in_err-line-clause-refused c =
    let starts = given c.after_prefix.result c.at.result c.in_ok-after_head.after_head _ (sym c.ok_or.ensures.value ∙ c.in_ok-after_head.was) c.after_prefix.ensures.some in
    handed_on c.args.bytes.now c.from_residual-in_err-line.result c.in_err-line.field-0.0 c.from_residual-in_err-line.ensures.1
    (for_no_value c.args.bytes.now c.cut.result c.at-2.result c.in_err-line.field-0.0 2 (sym c.ok_or-2.ensures.value ∙ c.in_err-line.was) c.at-2.ensures
    (λ none. refused_limits c.args.bytes.now c.in_ok-after_head.after_head.now c.requires.within starts (no_limits_uncut c.in_ok-after_head.after_head.now (c.cut.ensures.none none))))

pub returns-in_err-limits-clause-refused : goal.returns-in_err-limits-clause-refused
returns-in_err-limits-clause-refused c =
    let starts = given c.after_prefix.result c.at.result c.in_ok-after_head.after_head _ (sym c.ok_or.ensures.value ∙ c.in_ok-after_head.was) c.after_prefix.ensures.some in
    let parts = given c.cut.result c.at-2.result (c.in_ok-line.line, c.in_ok-line.after_limits) _ (sym c.ok_or-2.ensures.value ∙ c.in_ok-line.was) c.cut.ensures.some in
    handed_on c.args.bytes.now c.from_residual-in_err-limits.result c.in_err-limits.field-0.0 c.from_residual-in_err-limits.ensures.1
    (not_read c.args.bytes.now c.read_limits.result c.at_line.result 2 c.in_err-limits.field-0.0 c.at_line.ensures c.in_err-limits.was
    (λ bad. refused_limits c.args.bytes.now c.in_ok-after_head.after_head.now c.requires.within starts
    (no_limits_lead c.in_ok-after_head.after_head.now c.in_ok-line.line.now c.in_ok-line.after_limits.now parts (c.read_limits.ensures.bad bad))))

pub loop-line-init : goal.loop-line-init
loop-line-init c =
    let starts = given c.after_prefix.result c.at.result c.in_ok-after_head.after_head _ (sym c.ok_or.ensures.value ∙ c.in_ok-after_head.was) c.after_prefix.ensures.some in
    let parts = given c.cut.result c.at-2.result (c.in_ok-line.line, c.in_ok-line.after_limits) _ (sym c.ok_or-2.ensures.value ∙ c.in_ok-line.was) c.cut.ensures.some in
    let is = was_read c.read_limits.result c.at_line.result 2 c.in_ok-limits.limits _ c.at_line.ensures c.in_ok-limits.was c.read_limits.ensures.ok in
    let passed = passed_limits c.args.bytes.now c.in_ok-after_head.after_head.now c.in_ok-line.line.now c.in_ok-line.after_limits.now c.in_ok-limits.limits starts parts is in
    let longer = length_cut 10 c.in_ok-after_head.after_head.now c.in_ok-line.line.now c.in_ok-line.after_limits.now parts in
    let whole = ap length starts in
    let none = ap length c.requires.none in
    record {
      passed = subst (λ entries. Passed c.args.bytes.now c.in_ok-limits.limits entries c.in_ok-line.after_limits.now) (sym c.requires.none) passed;
      numbered = omega arith;
      within = omega arith;
    }

pub returns-in_err-entry-clause-refused : goal.returns-in_err-entry-clause-refused
returns-in_err-entry-clause-refused c =
    handed_on c.args.bytes.now c.from_residual-in_err-entry.result c.in_err-entry.field-0.0 c.from_residual-in_err-entry.ensures.1
    (not_read c.args.bytes.now c.read_line.result c.at_line-in-Some.result c.loop-line.number c.in_err-entry.field-0.0 c.at_line-in-Some.ensures c.in_err-entry.was
    (λ bad. refused_here c.args.bytes.now c.in_ok-limits.limits c.loop-line.history.items c.loop-line.rest.now c.loop-line.number c.requires.within c.loop-line.invariant.passed
    (none_leads c.loop-line.rest.now c.in-Some.line.now c.in-Some.after.now c.in-Some.ensures.some (c.read_line.ensures.bad bad)) c.loop-line.invariant.numbered))

pub returns-in-End-clause-refused : goal.returns-in-End-clause-refused
returns-in-End-clause-refused c =
    let is = was_read c.read_line.result c.at_line-in-Some.result c.loop-line.number c.in_ok-entry.field-0 (λ l. IsLineText l c.in-Some.line.now) c.at_line-in-Some.ensures c.in_ok-entry.was c.read_line.ensures.ok in
    let is_end = subst (λ l. IsLineText l c.in-Some.line.now) c.in-End.is is in
    subst (λ why. IsWhy why c.args.bytes.now) (sym c.at-in-End.ensures)
    (refused_after c.args.bytes.now c.in_ok-limits.limits c.loop-line.history.items c.loop-line.rest.now c.in-Some.line.now c.in-Some.after.now c.in-End.field-0 (c.loop-line.number + 1) c.requires.within c.loop-line.invariant.passed
    c.in-Some.ensures.some is_end (some_text c.in-Some.after.now c.if-not-is_empty.ensures) (omega (arith, c.loop-line.invariant.numbered)))

pub returns-in-End-2-clause-trace : goal.returns-in-End-2-clause-trace
returns-in-End-2-clause-trace c =
    let is = was_read c.read_line.result c.at_line-in-Some.result c.loop-line.number c.in_ok-entry.field-0 (λ l. IsLineText l c.in-Some.line.now) c.at_line-in-Some.ensures c.in_ok-entry.was c.read_line.ensures.ok in
    let is_end = subst (λ l. IsLineText l c.in-Some.line.now) c.in-End.is is in
    taken c.args.bytes.now c.in_ok-limits.limits c.loop-line.history c.loop-line.rest.now c.in-Some.line.now c.in-Some.after.now c.in-End.field-0 c.requires.within c.loop-line.invariant.passed
    c.in-Some.ensures.some is_end (no_text c.in-Some.after.now c.if-not-is_empty.ensures)

pub loop-line-preserved : goal.loop-line-preserved
loop-line-preserved c =
    let is = was_read c.read_line.result c.at_line-in-Some.result c.loop-line.number c.in_ok-entry.field-0 (λ l. IsLineText l c.in-Some.line.now) c.at_line-in-Some.ensures c.in_ok-entry.was c.read_line.ensures.ok in
    let is_entry = subst (λ l. IsLineText l c.in-Some.line.now) c.in-Entry.is is in
    let longer = length_cut 10 c.loop-line.rest.now c.in-Some.line.now c.in-Some.after.now c.in-Some.ensures.some in
    let pushed = c.in_ok-push-in-Entry.ensures.ok in
    let one_more = ap length pushed in
    let added = length-append c.loop-line.history.items (c.in-Entry.entry ∷ []) in
    record {
      passed = subst (λ entries. Passed c.args.bytes.now c.in_ok-limits.limits entries c.in-Some.after.now) (sym pushed)
          (passed_more c.args.bytes.now c.in_ok-limits.limits c.loop-line.history.items c.loop-line.rest.now c.in-Some.line.now c.in-Some.after.now c.in-Entry.entry c.loop-line.invariant.passed c.in-Some.ensures.some is_entry);
      numbered = omega (arith, c.loop-line.invariant.numbered);
      within = omega (arith, c.loop-line.invariant.within);
    }

pub returns-clause-refused : goal.returns-clause-refused
returns-clause-refused c =
    subst (λ why. IsWhy why c.args.bytes.now) (sym c.at-3.ensures)
    (refused_here c.args.bytes.now c.in_ok-limits.limits c.loop-line.history.items c.loop-line.rest.now c.loop-line.number c.requires.within c.loop-line.invariant.passed
    (none_leads_uncut c.loop-line.rest.now (c.cut-in-loop-line.ensures.none (none_left c.cut-in-loop-line.result c.in_default.not-Some))) c.loop-line.invariant.numbered)
