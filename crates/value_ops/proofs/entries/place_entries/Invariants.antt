use Rattle.std.proofs.Common.{◌≡◌, ◌*◌, drop, fold, Some}
use Rattle.value_core.specs.primitives.Parts.{paired, place_entry}
use Rattle.value_ops.proofs.entries.place_entries.Given as goal

abbrev pub invariant-loop-index : goal.invariant-loop-index
invariant-loop-index l = fold place_entry (Some l.items) (paired (drop (2 * l.index) l.entries)) ≡ fold place_entry (Some l.initial.items) (paired l.entries)
