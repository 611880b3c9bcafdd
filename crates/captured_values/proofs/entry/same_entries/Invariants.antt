use Rattle.std.proofs.Common.{◌≡◌, length, take}
use Rattle.captured_values.proofs.entry.same_entries.Given as goal

-- the two lists have one length, and agree up to the index
abbrev pub invariant-loop-index : goal.invariant-loop-index
invariant-loop-index l = record { lengths : length l.left ≡ length l.right; alike : take l.index l.left ≡ take l.index l.right }
