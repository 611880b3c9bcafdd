use Rattle.std.proofs.Common.{◌≤◌, ◌≡◌, ◌+◌, length}
use Rattle.trace_text.proofs.Passing.{Passed}
use Rattle.trace_text.proofs.read.read_lines.Given as goal

-- the lines so far are the head, the limits and the entries
abbrev pub invariant-loop-line : goal.invariant-loop-line
invariant-loop-line l = record {
  passed : Passed l.bytes l.limits l.history.items l.rest;
  numbered : l.number ≡ 3 + length l.history.items;
  within : length l.history.items + length l.rest ≤ length l.bytes;
}

abbrev pub decreases-loop-line : goal.decreases-loop-line
decreases-loop-line l = length l.rest
