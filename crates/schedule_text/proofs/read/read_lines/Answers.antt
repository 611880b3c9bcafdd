use Rattle.std.proofs.Common.{◌∷◌, [], length, sym, ap, subst, arith, length-append}
use Rattle.schedule_text.specs.Refused.{IsWhy}
use Rattle.schedule_text.proofs.Passing.{Passed, none_leads_uncut, passed_more, refused_here, taken}
use Rattle.schedule_text.proofs.Whys.{handed_on, text_why}
use Rattle.trace_text.proofs.Cuts.{length_cut}
use Rattle.trace_text.proofs.Options.{none_left}
use Rattle.trace_text.proofs.Passing.{no_text, some_text}
use Rattle.schedule_text.proofs.read.read_lines.Goals as goal

pub returns-in_err-line-clause-refused : goal.returns-in_err-line-clause-refused
returns-in_err-line-clause-refused c =
    handed_on (λ why. IsWhy why c.args.bytes.now) c.from_residual.result c.in_err-line.field-0.0 c.from_residual.ensures.1
    (text_why c.in_err-line.field-0.0 c.args.bytes.now c.loop-text.lines c.loop-text.rest.now c.in-Some.text.now c.in-Some.after.now c.loop-text.number c.requires c.loop-text.invariant.passed
    c.in-Some.ensures.some c.loop-text.invariant.numbered c.in_err-line.ensures.refused)

pub loop-text-preserved : goal.loop-text-preserved
loop-text-preserved c =
    let longer = length_cut 10 c.loop-text.rest.now c.in-Some.text.now c.in-Some.after.now c.in-Some.ensures.some in
    let pushed = c.in_ok-push.ensures.ok in
    let one_more = ap length pushed in
    let added = length-append c.loop-text.lines (c.in_ok-line.line ∷ []) in
    record {
      passed = subst (λ lines. Passed c.args.bytes.now lines c.in-Some.after.now) (sym pushed)
          (passed_more c.args.bytes.now c.loop-text.lines c.loop-text.rest.now c.in-Some.text.now c.in-Some.after.now c.in_ok-line.line c.loop-text.invariant.passed c.in-Some.ensures.some c.in_ok-line.ensures.line);
      numbered = omega (arith, c.loop-text.invariant.numbered);
      within = omega (arith, c.loop-text.invariant.within);
    }

pub returns-then-not-is_empty-clause-refused : goal.returns-then-not-is_empty-clause-refused
returns-then-not-is_empty-clause-refused c =
    refused_here c.args.bytes.now c.loop-text.lines c.loop-text.rest.now c.loop-text.number c.requires c.loop-text.invariant.passed
    (none_leads_uncut c.loop-text.rest.now (some_text c.loop-text.rest.now c.if-not-is_empty.ensures) (c.cut.ensures.none (none_left c.cut.result c.in_default.not-Some)))
    c.loop-text.invariant.numbered

pub returns-clause-lines : goal.returns-clause-lines
returns-clause-lines c =
    taken c.args.bytes.now c.loop-text.lines c.loop-text.rest.now c.requires c.loop-text.invariant.passed (no_text c.loop-text.rest.now c.if-not-is_empty.ensures)
