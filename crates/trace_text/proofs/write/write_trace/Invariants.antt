use Rattle.std.proofs.Common.{◌≡◌, ◌++◌, All, flat_map, take}
use Rattle.std.specs.Prelude.{codes}
use Rattle.serial_model.specs.Trace.{IsEntry, entry_text, limits_text, line_of}
use Rattle.trace_text.proofs.write.write_trace.Given as goal

-- the text is the first two lines and those of the entries before the index, which are entries
abbrev pub invariant-loop-entry : goal.invariant-loop-entry
invariant-loop-entry l = record {
  entries : l.entry-items ≡ l.trace.history.items;
  written : l.text ≡ (line_of (codes "chocola-trace 1") ++ line_of (limits_text l.trace.limits)) ++ flat_map (λ entry. line_of (entry_text entry)) (take l.entry-index l.entry-items);
  each : All IsEntry (take l.entry-index l.entry-items);
}
