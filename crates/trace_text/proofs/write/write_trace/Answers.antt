use Rattle.std.proofs.Common.{◌++◌, ◌∙◌, All, ap, subst, arith}
use Rattle.std.specs.List.{flat_map}
use Rattle.std.specs.Prelude.{codes}
use Rattle.std.proofs.lemmas.Grind.{common_steps}
use Rattle.std.proofs.lemmas.List.{take_all}
use Rattle.std.proofs.lemmas.List.Elements.{All-more}
use Rattle.serial_model.specs.Trace.{IsEntry, end_text, entry_text, limits_text, line_of}
use Rattle.trace_text.proofs.Writing.{ended}
use Rattle.trace_text.proofs.write.write_trace.Goals as goal

pub returns-clause-text : goal.returns-clause-text
returns-clause-text c =
    let t = c.args.trace.now in
    let all = take_all c.loop-entry.entry-index c.entries-entry-items.result.now (omega arith) ∙ c.loop-entry.invariant.entries in
    c.in_ok-push_end.ensures.line
    ∙ ap (λ text. text ++ line_of (end_text t.end)) (c.loop-entry.invariant.written ∙ ap (λ entries. (line_of (codes "chocola-trace 1") ++ line_of (limits_text t.limits)) ++ flat_map (λ entry. line_of (entry_text entry)) entries) all)
    ∙ ended t

pub returns-clause-is_trace : goal.returns-clause-is_trace
returns-clause-is_trace c =
    let all = take_all c.loop-entry.entry-index c.entries-entry-items.result.now (omega arith) ∙ c.loop-entry.invariant.entries in
    record { limits = c.push_limits.ensures.in_range; entries = subst (All IsEntry) all c.loop-entry.invariant.each; end = c.in_ok-push_end.ensures.is_end }

pub loop-entry-preserved : goal.loop-entry-preserved
loop-entry-preserved c =
    let items = c.entries-entry-items.result.now in
    record {
      entries = c.loop-entry.invariant.entries;
      written = grind (arith, common_steps);
      each = All-more IsEntry items c.loop-entry.entry-index c.entry-item.result c.loop-entry-test.true c.loop-entry.invariant.each (subst IsEntry c.entry-item.is c.in_ok-push_entry.ensures.is_entry);
    }
